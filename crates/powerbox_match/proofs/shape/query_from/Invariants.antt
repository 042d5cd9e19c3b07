use Rattle.std.proofs.Common.{◌≡◌, Ok, take}
use Rattle.serde_json.specs.View.{items_view}
use Rattle.powerbox_match.specs.Shape.{descriptors_of}
use Rattle.powerbox_match.proofs.shape.query_from.Given as goal

abbrev pub invariant-loop-item : goal.invariant-loop-item
invariant-loop-item l =
    descriptors_of (items_view (take l.item-index l.item-items)) ≡ Ok l.descriptors.items
