use Rattle.std.proofs.Common.{◌≡◌, Some, None, option_and_then, sym, ap, ◌∙◌, rules}
use Rattle.serde_json.specs.View.{view, items_view}
use Rattle.serde_json.specs.Find.{as_bool}
use Rattle.app_manifest.specs.Fields.{each_of}
use Rattle.app_manifest.proofs.Listed.{each_of_more, each_of_none}
use Rattle.app_manifest.proofs.fields.flags_from.Goals as goal

pub returns-in_default-as_bool : goal.returns-in_default-as_bool
returns-in_default-as_bool c =
    let ds = c.deref-item-items.result.now in
    let fails : as_bool (view c.item-item.result) ≡ None = search rules in
    let none : each_of as_bool (items_view ds) ≡ None = each_of_none as_bool ds c.loop-item.item-index c.item-item.result c.loop-item-test.true c.item-item.is fails in
    sym (ap (λ items. option_and_then (each_of as_bool) items) (sym c.in-Some.ensures) ∙ rw (← c.deref-item-items.ensures.value) none)

pub loop-item-preserved : goal.loop-item-preserved
loop-item-preserved c =
    let stated : as_bool (view c.item-item.result) ≡ Some c.in-Some-as_bool.flag = search rules in
    rw c.in_ok-push.ensures.items
    (each_of_more as_bool c.deref-item-items.result.now c.loop-item.item-index c.item-item.result c.loop-item.flags.items c.in-Some-as_bool.flag c.loop-item-test.true c.item-item.is c.loop-item.invariant stated)
