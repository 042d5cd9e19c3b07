use Rattle.std.proofs.Common.{◌≡◌, ◌+◌, ◌-◌, ◌*◌, map}
use Rattle.row_formats.specs.Format.{chain, list, items_at, last_of}
use Rattle.powerbox_match.specs.Value.{tag_data, field_data}
use Rattle.row_codec.specs.ValueFormat.{value, entry}
use Rattle.row_formats.proofs.Loop.{with_front}
use Rattle.row_codec.proofs.values.+value.Given as goal

abbrev pub decreases-value_of : goal.decreases-value_of
decreases-value_of l = 3 * l.depth

abbrev pub decreases-field_of : goal.decreases-field_of
decreases-field_of l = 3 * l.depth + 1

abbrev pub decreases-fields_of : goal.decreases-fields_of
decreases-fields_of l = 3 * l.depth + 2

abbrev pub decreases-items_of : goal.decreases-items_of
decreases-items_of l = 3 * l.depth + 1

-- the fields so far and those to come are all
abbrev pub invariant-fields_of-loop : goal.invariant-fields_of-loop
invariant-fields_of-loop l =
    with_front (map field_data l.fields.items) (items_at (λ last. (entry (value l.depth) last).read) (last_of (map field_data l.fields.items)) (l.count - l.counter) l.reader)
    ≡ (chain 1000 (entry (value l.depth))).read l.fn.reader

-- the items so far and those to come are all
abbrev pub invariant-items_of-loop : goal.invariant-items_of-loop
invariant-items_of-loop l =
    with_front (map tag_data l.items.items) (items_at (λ last. (value l.depth).read) (last_of (map tag_data l.items.items)) (l.count - l.counter) l.reader)
    ≡ (list 1000 (value l.depth)).read l.fn.reader
