use Rattle.std.proofs.Common.{◌≡◌, ◌+◌, ◌*◌, ◌++◌, None, length, take, map, true}
use Rattle.std.specs.Int.{w16}
use Rattle.powerbox_match.specs.Value.{tag_data, field_data, fields_data, items_data, are_fields_tidy, are_items_tidy}
use Rattle.row_formats.specs.Format.{number_bytes, write_items, AllFit}
use Rattle.row_codec.specs.ValueFormat.{value, entry}
use Rattle.row_codec.proofs.values.+put_value.Given as goal

abbrev pub decreases-put_value : goal.decreases-put_value
decreases-put_value l = 3 * l.depth

abbrev pub decreases-put_field : goal.decreases-put_field
decreases-put_field l = 3 * l.depth + 1

abbrev pub decreases-put_fields : goal.decreases-put_fields
decreases-put_fields l = 3 * l.depth + 2

abbrev pub decreases-put_items : goal.decreases-put_items
decreases-put_items l = 3 * l.depth + 1

-- the fields so far are written, and fit
abbrev pub invariant-put_fields-loop-field : goal.invariant-put_fields-loop-field
invariant-put_fields-loop-field l =
    record {
      written : l.writer ≡ (l.fn.writer ++ number_bytes w16 (length (map field_data l.fields))) ++ write_items (λ last. (entry (value l.depth) last).write) None (map field_data (take l.field-index l.fields));
      fit : are_fields_tidy (fields_data l.fields) ≡ true → AllFit (λ last. (entry (value l.depth) None).fits) None (map field_data (take l.field-index l.fields));
    }

-- the items so far are written, and fit
abbrev pub invariant-put_items-loop-item : goal.invariant-put_items-loop-item
invariant-put_items-loop-item l =
    record {
      written : l.writer ≡ (l.fn.writer ++ number_bytes w16 (length (map tag_data l.items))) ++ write_items (λ last. (value l.depth).write) None (map tag_data (take l.item-index l.items));
      fit : are_items_tidy (items_data l.items) ≡ true → AllFit (λ last. (value l.depth).fits) None (map tag_data (take l.item-index l.items));
    }
