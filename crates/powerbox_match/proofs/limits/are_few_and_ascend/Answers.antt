use Rattle.std.proofs.Common.{◌≡◌, ◌&&◌, true, false, leb, length, refl, sym, ap, ◌∙◌}
use Rattle.powerbox_match.specs.Value.{field_count, is_ascending, fields_data}
use Rattle.powerbox_match.proofs.Ends.{within, beyond}
use Rattle.powerbox_match.proofs.Within.{field_count-length}
use Rattle.powerbox_match.proofs.limits.are_few_and_ascend.Goals as goal

pub returns-then-fields-le-ENTRY_LIMIT : goal.returns-then-fields-le-ENTRY_LIMIT
returns-then-fields-le-ENTRY_LIMIT c =
    let fs = fields_data c.args.fields.now in
    let few : leb (field_count fs) 1000 ≡ true = within (field_count fs) (length c.args.fields.now) (field_count-length c.args.fields.now) c.if-fields-le-ENTRY_LIMIT.true in
    c.ascend.ensures ∙ sym (ap (λ b. b && is_ascending fs) few)

pub returns-else-fields-le-ENTRY_LIMIT : goal.returns-else-fields-le-ENTRY_LIMIT
returns-else-fields-le-ENTRY_LIMIT c =
    let fs = fields_data c.args.fields.now in
    let many = c.if-fields-le-ENTRY_LIMIT.false in
    let few : leb (field_count fs) 1000 ≡ false = beyond (field_count fs) (length c.args.fields.now) (field_count-length c.args.fields.now) many in
    beyond (length c.args.fields.now) (length c.args.fields.now) refl many ∙ sym (ap (λ b. b && is_ascending fs) few)
