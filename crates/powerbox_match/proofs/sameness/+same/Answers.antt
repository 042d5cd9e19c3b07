use Rattle.std.proofs.Common.{rules, ◌≡◌, ℕ, List, sym, ap, ◌∙◌, arith}
use Rattle.powerbox_match.specs.Value.{TagData, fields, tag_data, field_data, fields_data}
use Rattle.powerbox_match.specs.declared.value.TagValue.TheViews.{the_lemmas}
use Rattle.powerbox_match.proofs.Views.{tag_data-Fields}
use Rattle.powerbox_match.proofs.Same.{same_at, same_length, same_more, items_same, fields_same, one_name, field_same}
use Rattle.powerbox_match.proofs.sameness.+same.Goals as goal
use Rattle.powerbox_match.proofs.sameness.+same.Goals.{are_same_fields-then-ne-via-then-ne, are_same_fields-then-ne-via-else-ne+then-not-is_same_value}

pub are_same_items-returns-then-values-others : goal.are_same_items-returns-then-values-others
are_same_items-returns-then-values-others t c =
    let vs = c.args.values.now in
    let ws = c.args.others.now in
    (λ h. absurd (cc), λ e. absurd (c.if-values-others.true (same_length tag_data vs ws (items_same vs ws e))))

pub are_same_items-returns-then-not-is_same_value :
    goal.are_same_items-returns-then-not-is_same_value
are_same_items-returns-then-not-is_same_value t c =
    let vs = c.args.values.now in
    let ws = c.args.others.now in
    let at = same_at tag_data vs ws c.loop-place.place c.index-values-place.result c.index-others-place.result (omega arith) (omega arith) c.index-values-place.is c.index-others-place.is in
    (λ h. absurd (cc), λ e. sym c.if-not-is_same_value.true ∙ c.is_same_value.ensures.1 (at (items_same vs ws e)))

pub are_same_fields-returns-then-values-others : goal.are_same_fields-returns-then-values-others
are_same_fields-returns-then-values-others t c =
    let fs = c.args.values.now in
    let gs = c.args.others.now in
    (λ h. absurd (cc), λ e. absurd (c.if-values-others.true (same_length field_data fs gs (fields_same fs gs e))))

pub are_same_fields-returns-then-ne : goal.are_same_fields-returns-then-ne
are_same_fields-returns-then-ne t c =
    let fs = c.args.values.now in
    let gs = c.args.others.now in
    let at = same_at field_data fs gs c.loop-place.place c.index-values-place.result c.index-others-place.result (omega arith) (omega arith) c.index-values-place.is c.index-others-place.is in
    elim c.then-ne.branch [
      | are_same_fields-then-ne-via-then-ne w ↦ (λ h. absurd (cc), λ e. sym (one_name _ _ (at (fields_same fs gs e))) ∙ sym c.ne.ensures ∙ w.if-ne.true)
      | are_same_fields-then-ne-via-else-ne+then-not-is_same_value w ↦ (λ h. absurd (cc), λ e. sym w.if-not-is_same_value.true ∙ w.is_same_value.ensures.1 (ap (λ (d : List ℕ × TagData). d.1) (at (fields_same fs gs e))))
    ]

pub are_same_fields-loop-place-preserved : goal.are_same_fields-loop-place-preserved
are_same_fields-loop-place-preserved t c =
    same_more field_data c.args.values.now c.args.others.now c.loop-place.place c.index-values-place.result c.index-others-place.result (omega arith) (omega arith) c.index-values-place.is c.index-others-place.is (field_same _ _ (sym c.ne.ensures ∙ c.if-ne.false) (c.is_same_value.ensures.0 c.if-not-is_same_value.false)) c.loop-place.invariant

pub is_same_value-returns-in-Fields-Fields : goal.is_same_value-returns-in-Fields-Fields
is_same_value-returns-in-Fields-Fields t c =
    let fs = fields_data c.deref.result.now in
    let gs = fields_data c.deref-in-Fields-Fields.result.now in
    let value : tag_data c.args.value.now ≡ fields fs = rw c.deref.ensures.value (search (rules, the_lemmas, tag_data-Fields)) in
    let other : tag_data c.args.other.now ≡ fields gs = rw c.deref-in-Fields-Fields.ensures.value (search (rules, the_lemmas, tag_data-Fields)) in
    (λ h. value ∙ ap fields (c.are_same_fields.ensures.0 h) ∙ sym other, λ e. c.are_same_fields.ensures.1 (let whole : fields fs ≡ fields gs = sym value ∙ e ∙ other in cc))
