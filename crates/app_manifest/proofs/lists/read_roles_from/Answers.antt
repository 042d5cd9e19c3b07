use Rattle.std.proofs.Common.{◌≡◌, [], ◌∷◌, Some, None, option_and_then, map, sym, ap, ◌∙◌, rules}
use Rattle.std.proofs.lemmas.List.{map-append}
use Rattle.serde_json.specs.View.{view, items_view}
use Rattle.app_manifest.specs.Fields.{each_of}
use Rattle.app_manifest.specs.Draft.{role_of}
use Rattle.app_manifest.specs.ReadParts.{role_draft}
use Rattle.app_manifest.proofs.Listed.{each_of_more, each_of_none}
use Rattle.app_manifest.proofs.lists.read_roles_from.Goals as goal

pub returns-in_default-2 : goal.returns-in_default-2
returns-in_default-2 c =
    let ds = c.deref-item-items.result.now in
    let fails : role_of (view c.item-item.result) ≡ None = search rules in
    let none : each_of role_of (items_view ds) ≡ None = each_of_none role_of ds c.loop-item.item-index c.item-item.result c.loop-item-test.true c.item-item.is fails in
    sym (ap (λ items. option_and_then (each_of role_of) items) (sym c.in-Some.ensures) ∙ rw (← c.deref-item-items.ensures.value) none)

pub loop-item-preserved : goal.loop-item-preserved
loop-item-preserved c =
    let stated : role_of (view c.item-item.result) ≡ Some (role_draft c.in-Some-2.role) = search rules in
    rw (c.in_ok-push.ensures.items, map-append role_draft c.loop-item.roles.items (c.in-Some-2.role ∷ []))
    (each_of_more role_of c.deref-item-items.result.now c.loop-item.item-index c.item-item.result (map role_draft c.loop-item.roles.items) (role_draft c.in-Some-2.role) c.loop-item-test.true c.item-item.is c.loop-item.invariant stated)
