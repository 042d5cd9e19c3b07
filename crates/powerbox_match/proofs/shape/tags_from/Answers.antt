use Rattle.std.proofs.Common.{◌≡◌, ◌≤◌, [], ◌∷◌, Some, None, Err, length-append, take, sym, ap, ◌∙◌, arith}
use Rattle.std.proofs.lemmas.List.{take_all}
use Rattle.std.proofs.lemmas.Result.{err_from_is_err_and}
use Rattle.serde_json.specs.View.{items_view}
use Rattle.powerbox_match.specs.Shape.{deepest_value, tags_of, tags_or_fault}
use Rattle.powerbox_match.proofs.Nesting.{nests_at_most}
use Rattle.powerbox_match.proofs.Listed.{tags_of_more, tags_of_none, tags_stated, tags_bad, tags_too_many, at_most_from_leb}
use Rattle.powerbox_match.proofs.shape.tags_from.Goals as goal

pub returns-then-len-gt-DESCRIPTOR_TAG_LIMIT-clause-fault : goal.returns-then-len-gt-DESCRIPTOR_TAG_LIMIT-clause-fault
returns-then-len-gt-DESCRIPTOR_TAG_LIMIT-clause-fault c =
    let ds = c.in-Some.items.now.items in
    let shallow : deepest_value (items_view ds) ≤ 16 = at_most_from_leb (deepest_value (items_view ds)) 16 (rw (← c.deref.ensures.value) (sym c.values_nest_within.ensures ∙ c.if-not-values_nest_within.false)) in
    λ other. ap tags_or_fault (sym c.in-Some.ensures) ∙ tags_too_many ds shallow (omega arith)

pub tag_from-requires : goal.tag_from-requires
tag_from-requires c =
    let ds = c.deref-item-items.result.now in
    let same : c.deref.result.now ≡ ds = c.deref.ensures.value ∙ sym c.deref-item-items.ensures.value in
    let shallow : deepest_value (items_view ds) ≤ 16 = at_most_from_leb (deepest_value (items_view ds)) 16 (rw (← same) (sym c.values_nest_within.ensures ∙ c.if-not-values_nest_within.false)) in
    let here = nests_at_most ds c.loop-item.item-index c.item-item.result (omega arith) in
    rw c.item-item.is (omega (arith, here, shallow))

pub returns-in_err-tag_from-clause-fault : goal.returns-in_err-tag_from-clause-fault
returns-in_err-tag_from-clause-fault c =
    let ds = c.in-Some.items.now.items in
    let shallow : deepest_value (items_view ds) ≤ 16 = at_most_from_leb (deepest_value (items_view ds)) 16 (rw (← c.deref.ensures.value) (sym c.values_nest_within.ensures ∙ c.if-not-values_nest_within.false)) in
    let p = err_from_is_err_and c.from_residual.result c.from_residual.ensures.1 in
    rw (p.1, p.2) (λ other.
    let q = c.in_err-tag_from.ensures.fault other in
    let none : tags_of (items_view c.deref-item-items.result.now) ≡ None = tags_of_none c.deref-item-items.result.now c.loop-item.item-index c.item-item.result (omega arith) c.item-item.is q.1 in
    let none_there : tags_of (items_view ds) ≡ None = rw (← c.deref-item-items.ensures.value) none in
    ap tags_or_fault (sym c.in-Some.ensures) ∙ tags_bad ds shallow (omega arith) none_there ∙ ap Err (sym q.0))

pub loop-item-preserved : goal.loop-item-preserved
loop-item-preserved c =
    let old = c.loop-item.tags.items in
    let tag = c.in_ok-tag_from.field-0 in
    record {
      stated = rw c.in_ok-push.ensures.items (tags_of_more c.deref-item-items.result.now c.loop-item.item-index c.item-item.result old tag (omega arith) c.item-item.is c.loop-item.invariant.stated c.in_ok-tag_from.ensures.ok);
      count = rw c.in_ok-push.ensures.items (omega (arith, length-append old (tag ∷ []), c.loop-item.invariant.count));
    }

pub returns-clause-ok : goal.returns-clause-ok
returns-clause-ok c =
    let ds = c.in-Some.items.now.items in
    let shallow : deepest_value (items_view ds) ≤ 16 = at_most_from_leb (deepest_value (items_view ds)) 16 (rw (← c.deref.ensures.value) (sym c.values_nest_within.ensures ∙ c.if-not-values_nest_within.false)) in
    let all : take c.loop-item.item-index c.deref-item-items.result.now ≡ ds = take_all c.loop-item.item-index c.deref-item-items.result.now (omega arith) ∙ c.deref-item-items.ensures.value in
    let stated : tags_of (items_view ds) ≡ Some c.loop-item.tags.items = rw all at c.loop-item.invariant.stated in
    ap tags_or_fault (sym c.in-Some.ensures) ∙ tags_stated ds c.loop-item.tags.items shallow (omega arith) stated
