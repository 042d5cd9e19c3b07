use Rattle.std.proofs.Common.{rules, ◌≡◌, ◌≤◌, true, sym, ap, ◌∙◌, arith}
use Rattle.powerbox_match.specs.declared.value.TagValue.TheViews.{the_lemmas}
use Rattle.powerbox_match.specs.Value.{fields, items, nesting, fields_nesting, items_nesting, is_tidy, are_fields_tidy, are_items_tidy, tag_data, fields_data, items_data}
use Rattle.powerbox_match.proofs.Views.{tag_data-Fields, tag_data-Items}
use Rattle.powerbox_match.proofs.Tidy.{items_tidy_at, fields_tidy_at, items_nesting_at, fields_nesting_at}
use Rattle.powerbox_match.proofs.Forms.{AreForms_more, AreFieldForms_more, form_of_items, form_of_fields}
use Rattle.powerbox_match.proofs.sorted.+sorting.Goals as goal

pub forms_of_items-sorted_form-requires : goal.forms_of_items-sorted_form-requires
forms_of_items-sorted_form-requires t c =
    let vs = c.deref-item-items.result.now in
    let i = c.loop-item.item-index in
    let x = c.item-item.result in
    let here : nesting (tag_data x) ≤ items_nesting (items_data vs) = rw c.item-item.is (items_nesting_at vs i x (omega arith)) in
    let there : nesting (tag_data x) ≤ items_nesting (items_data c.args.items.now.items) = rw (← c.deref-item-items.ensures.value) here in
    let tidy : are_items_tidy (items_data vs) ≡ true = rw c.deref-item-items.ensures.value c.requires in
    (omega arith, rw c.item-item.is (items_tidy_at vs i x (omega arith) tidy))

pub forms_of_items-loop-item-preserved : goal.forms_of_items-loop-item-preserved
forms_of_items-loop-item-preserved t c =
    rw c.in_ok-push.ensures.items
    (AreForms_more c.deref-item-items.result.now c.loop-item.item-index c.item-item.result c.loop-item.forms.items c.in_ok-sorted_form.field-0 (omega arith) c.item-item.is c.loop-item.invariant c.in_ok-sorted_form.ensures)

pub forms_of_fields-sorted_form-requires : goal.forms_of_fields-sorted_form-requires
forms_of_fields-sorted_form-requires t c =
    let fs = c.deref-field-items.result.now in
    let i = c.loop-field.field-index in
    let x = c.field-item.result in
    let here : nesting (tag_data x.1) ≤ fields_nesting (fields_data fs) = rw c.field-item.is (fields_nesting_at fs i x (omega arith)) in
    let there : nesting (tag_data x.1) ≤ fields_nesting (fields_data c.args.fields.now.items) = rw (← c.deref-field-items.ensures.value) here in
    let tidy : are_fields_tidy (fields_data fs) ≡ true = rw c.deref-field-items.ensures.value c.requires in
    (omega arith, rw c.field-item.is (fields_tidy_at fs i x (omega arith) tidy))

pub forms_of_fields-loop-field-preserved : goal.forms_of_fields-loop-field-preserved
forms_of_fields-loop-field-preserved t c =
    let name : c.in_ok-name.name ≡ c.field-item.result.0 = search rules in
    rw c.in_ok-push.ensures.items
    (AreFieldForms_more c.deref-field-items.result.now c.loop-field.field-index c.field-item.result c.loop-field.forms.items (c.in_ok-name.name, c.in_ok-sorted_form.field-0) (omega arith) c.field-item.is c.loop-field.invariant name c.in_ok-sorted_form.ensures)

pub sorted_form-returns-in_ok-forms_of_fields-in-Fields :
    goal.sorted_form-returns-in_ok-forms_of_fields-in-Fields
sorted_form-returns-in_ok-forms_of_fields-in-Fields t c =
    let fs = c.in-Fields.fields.items in
    let made = c.in_ok-forms_of_fields-in-Fields.field-0 in
    let is : tag_data c.args.value.now ≡ fields (fields_data fs) = search (rules, the_lemmas, tag_data-Fields) in
    let tidy : is_tidy (fields (fields_data fs)) ≡ true = ap is_tidy (sym is) ∙ c.requires in
    rw (is, tag_data-Fields made) (form_of_fields fs made.items tidy c.in_ok-forms_of_fields-in-Fields.ensures)

pub sorted_form-returns-in_ok-in_order-in-Items : goal.sorted_form-returns-in_ok-in_order-in-Items
sorted_form-returns-in_ok-in_order-in-Items t c =
    let vs = c.in-Items.items.items in
    let forms = c.in_ok-forms_of_items-in-Items.field-0 in
    let made = c.in_ok-in_order-in-Items.field-0 in
    let is : tag_data c.args.value.now ≡ items (items_data vs) = search (rules, the_lemmas, tag_data-Items) in
    let tidy : is_tidy (items (items_data vs)) ≡ true = ap is_tidy (sym is) ∙ c.requires in
    rw (is, tag_data-Items made)
    (form_of_items vs forms.items made.items tidy c.in_ok-forms_of_items-in-Items.ensures c.in_ok-in_order-in-Items.ensures.same c.in_ok-in_order-in-Items.ensures.order)
