use Rattle.std.proofs.Common.{◌≡◌, Some, take}
use Rattle.serde_json.specs.View.{items_view}
use Rattle.serde_json.specs.Find.{as_bool}
use Rattle.app_manifest.specs.Fields.{each_of}
use Rattle.app_manifest.proofs.fields.flags_from.Given as goal

abbrev pub invariant-loop-item : goal.invariant-loop-item
invariant-loop-item l =
    each_of as_bool (items_view (take l.item-index l.item-items)) ≡ Some l.flags.items
