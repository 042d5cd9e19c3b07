use Rattle.powerbox_match.specs.Value.{tag_data}
use Rattle.powerbox_match.proofs.Tidy.{within_from}
use Rattle.row_codec.proofs.ValuesRead.{value_within}
use Rattle.row_codec.proofs.apps.TagRowField.read_field.Goals as goal

pub new-requires : goal.new-requires
new-requires c =
    let within = value_within 16 c.u64.new.self (tag_data c.in_ok-value.value) c.value_of.new.reader c.in_ok-value.ensures in
    within_from (tag_data c.in_ok-value.value) within.0 within.1
