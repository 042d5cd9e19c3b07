use Rattle.std.proofs.Common.{◌≡◌, Some, map, take}
use Rattle.serde_json.specs.View.{items_view}
use Rattle.app_manifest.specs.Fields.{each_of}
use Rattle.app_manifest.specs.Draft.{role_of}
use Rattle.app_manifest.specs.ReadParts.{role_draft}
use Rattle.app_manifest.proofs.lists.read_roles_from.Given as goal

abbrev pub invariant-loop-item : goal.invariant-loop-item
invariant-loop-item l =
    each_of role_of (items_view (take l.item-index l.item-items)) ≡ Some (map role_draft l.roles.items)
