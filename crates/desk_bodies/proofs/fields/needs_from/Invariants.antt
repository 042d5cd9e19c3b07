use Rattle.std.proofs.Common.{◌≡◌, Some, take}
use Rattle.serde_json.specs.View.{items_view}
use Rattle.app_manifest.specs.Fields.{each_of}
use Rattle.desk_bodies.specs.Fields.{need_of}
use Rattle.desk_bodies.proofs.fields.needs_from.Given as goal

abbrev pub invariant-loop-item : goal.invariant-loop-item
invariant-loop-item l =
    each_of need_of (items_view (take l.item-index l.item-items)) ≡ Some l.list.items
