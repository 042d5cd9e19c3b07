use Rattle.std.proofs.Common.{◌≡◌, Err, sym, ap, ◌∙◌, arith}
use Rattle.std.proofs.lemmas.Result.{err_from_is_err_and}
use Rattle.serde_json.specs.View.{items_view}
use Rattle.powerbox_match.specs.Shape.{descriptors_of, query_or_fault}
use Rattle.powerbox_match.proofs.Listed.{descriptors_of_more, descriptors_of_fault}
use Rattle.powerbox_match.proofs.shape.query_from.Goals as goal

pub returns-in_err-descriptor_from-clause-fault : goal.returns-in_err-descriptor_from-clause-fault
returns-in_err-descriptor_from-clause-fault c =
    let ds = c.deref-item-items.result.now in
    let p = err_from_is_err_and c.from_residual.result c.from_residual.ensures.1 in
    rw (p.1, p.2) (λ other.
    let faulty : descriptors_of (items_view ds) ≡ Err c.in_err-descriptor_from.field-0.0 =
    descriptors_of_fault ds c.loop-item.item-index c.item-item.result c.loop-item.descriptors.items c.in_err-descriptor_from.field-0.0 (omega arith) c.item-item.is c.loop-item.invariant (c.in_err-descriptor_from.ensures.fault other) in
    ap query_or_fault (sym c.in-Some.ensures) ∙ rw (← c.deref-item-items.ensures.value) faulty)

pub loop-item-preserved : goal.loop-item-preserved
loop-item-preserved c =
    rw c.in_ok-push.ensures.items
    (descriptors_of_more c.deref-item-items.result.now c.loop-item.item-index c.item-item.result c.loop-item.descriptors.items c.in_ok-descriptor_from.field-0 (omega arith) c.item-item.is c.loop-item.invariant c.in_ok-descriptor_from.ensures.ok)
