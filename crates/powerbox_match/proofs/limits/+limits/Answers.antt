use Rattle.std.proofs.Common.{◌≡◌, ◌-◌, ◌&&◌, true, false, leb, sym, ap, ◌∙◌, rules}
use Rattle.powerbox_match.specs.Value.{fields, items, field_count, item_count, fields_nesting, items_nesting, is_ascending, are_fields_tidy, are_items_tidy, tag_data, fields_data, items_data}
use Rattle.powerbox_match.specs.declared.value.TagValue.TheViews.{the_lemmas}
use Rattle.powerbox_match.proofs.Views.{tag_data-Fields, tag_data-Items}
use Rattle.powerbox_match.proofs.Within.{fields_in, items_in}
use Rattle.powerbox_match.proofs.limits.+limits.Goals as goal

pub is_within-returns-then-are_few_and_ascend : goal.is_within-returns-then-are_few_and_ascend
is_within-returns-then-are_few_and_ascend t c =
    let fs = fields_data c.in-Fields.fields.items in
    let is : tag_data c.args.value.now ≡ fields fs = search (rules, the_lemmas, tag_data-Fields) in
    let formed : (leb (field_count fs) 1000 && is_ascending fs) ≡ true = rw (← c.deref.ensures.value) (sym c.are_few_and_ascend.ensures ∙ c.if-are_few_and_ascend.true) in
    let rest : c.are_fields_within.result ≡ (leb (fields_nesting fs) (c.args.most - 1) && are_fields_tidy fs) = rw (← c.deref-then-are_few_and_ascend.ensures.value) c.are_fields_within.ensures in
    rest ∙ sym (fields_in c.args.most c.args.value.now fs is c.if-most-eq0.false ∙ ap (λ b. b && (leb (fields_nesting fs) (c.args.most - 1) && are_fields_tidy fs)) formed)

pub is_within-returns-else-are_few_and_ascend : goal.is_within-returns-else-are_few_and_ascend
is_within-returns-else-are_few_and_ascend t c =
    let fs = fields_data c.in-Fields.fields.items in
    let is : tag_data c.args.value.now ≡ fields fs = search (rules, the_lemmas, tag_data-Fields) in
    let formed : (leb (field_count fs) 1000 && is_ascending fs) ≡ false = rw (← c.deref.ensures.value) (sym c.are_few_and_ascend.ensures ∙ c.if-are_few_and_ascend.false) in
    c.if-are_few_and_ascend.false ∙ sym (fields_in c.args.most c.args.value.now fs is c.if-most-eq0.false ∙ ap (λ b. b && (leb (fields_nesting fs) (c.args.most - 1) && are_fields_tidy fs)) formed)

pub is_within-returns-then-are_few : goal.is_within-returns-then-are_few
is_within-returns-then-are_few t c =
    let vs = items_data c.in-Items.items.items in
    let is : tag_data c.args.value.now ≡ items vs = search (rules, the_lemmas, tag_data-Items) in
    let few : leb (item_count vs) 1000 ≡ true = rw (← c.deref-in-Items.ensures.value) (sym c.are_few.ensures ∙ c.if-are_few.true) in
    let rest : c.are_items_within.result ≡ (leb (items_nesting vs) (c.args.most - 1) && are_items_tidy vs) = rw (← c.deref-then-are_few.ensures.value) c.are_items_within.ensures in
    rest ∙ sym (items_in c.args.most c.args.value.now vs is c.if-most-eq0.false ∙ ap (λ b. b && (leb (items_nesting vs) (c.args.most - 1) && are_items_tidy vs)) few)

pub is_within-returns-else-are_few : goal.is_within-returns-else-are_few
is_within-returns-else-are_few t c =
    let vs = items_data c.in-Items.items.items in
    let is : tag_data c.args.value.now ≡ items vs = search (rules, the_lemmas, tag_data-Items) in
    let few : leb (item_count vs) 1000 ≡ false = rw (← c.deref-in-Items.ensures.value) (sym c.are_few.ensures ∙ c.if-are_few.false) in
    c.if-are_few.false ∙ sym (items_in c.args.most c.args.value.now vs is c.if-most-eq0.false ∙ ap (λ b. b && (leb (items_nesting vs) (c.args.most - 1) && are_items_tidy vs)) few)
