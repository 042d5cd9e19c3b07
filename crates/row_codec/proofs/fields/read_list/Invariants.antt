use Rattle.std.proofs.Common.{◌≡◌, ◌-◌}
use Rattle.row_formats.specs.Format.{list_at, items_at, last_of}
use Rattle.row_formats.proofs.Loop.{with_front}
use Rattle.row_codec.proofs.fields.read_list.Given as goal

abbrev pub invariant-loop : goal.invariant-loop
invariant-loop g l =
    with_front l.items (items_at (λ last. g.T.RowField.format.read) (last_of l.items) (l.count - l.counter) l.reader)
    ≡ list_at l.limit (λ last. g.T.RowField.format.read) l.fn.reader
