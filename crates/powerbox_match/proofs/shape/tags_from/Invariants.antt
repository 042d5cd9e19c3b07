use Rattle.std.proofs.Common.{◌≡◌, Some, length, take}
use Rattle.serde_json.specs.View.{items_view}
use Rattle.powerbox_match.specs.Shape.{tags_of}
use Rattle.powerbox_match.proofs.shape.tags_from.Given as goal

abbrev pub invariant-loop-item : goal.invariant-loop-item
invariant-loop-item l =
    record {
      stated : tags_of (items_view (take l.item-index l.item-items)) ≡ Some l.tags.items;
      count : length l.tags.items ≡ l.item-index;
    }
