use Rattle.std.proofs.Common.{◌+◌, ◌*◌, take}
use Rattle.powerbox_match.specs.Value.{nesting, fields_nesting, items_nesting, tag_data, fields_data, items_data}
use Rattle.powerbox_match.specs.Steps.{AreForms, AreFieldForms}
use Rattle.powerbox_match.proofs.sorted.+sorting.Given as goal

abbrev pub invariant-forms_of_items-loop-item : goal.invariant-forms_of_items-loop-item
invariant-forms_of_items-loop-item l = AreForms l.forms.items (take l.item-index l.item-items)

abbrev pub invariant-forms_of_fields-loop-field : goal.invariant-forms_of_fields-loop-field
invariant-forms_of_fields-loop-field l = AreFieldForms l.forms.items (take l.field-index l.field-items)

abbrev pub decreases-sorted_form : goal.decreases-sorted_form
decreases-sorted_form l = 2 * nesting (tag_data l.value.now)

abbrev pub decreases-forms_of_items : goal.decreases-forms_of_items
decreases-forms_of_items l = 2 * items_nesting (items_data l.items.now.items) + 1

abbrev pub decreases-forms_of_fields : goal.decreases-forms_of_fields
decreases-forms_of_fields l = 2 * fields_nesting (fields_data l.fields.now.items) + 1
