use Rattle.std.proofs.Common.{◌≡◌, map, take}
use Rattle.powerbox_match.specs.Value.{tag_data, field_data}
use Rattle.powerbox_match.proofs.clone.+copy.Given as goal

abbrev pub invariant-copy_items-loop-item : goal.invariant-copy_items-loop-item
invariant-copy_items-loop-item l = map tag_data l.copies.items ≡ map tag_data (take l.item-index l.item-items)

abbrev pub invariant-copy_fields-loop-field : goal.invariant-copy_fields-loop-field
invariant-copy_fields-loop-field l =
    map field_data l.copies.items ≡ map field_data (take l.field-index l.field-items)
