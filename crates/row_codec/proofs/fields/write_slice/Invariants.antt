use Rattle.std.proofs.Common.{◌≡◌, ◌++◌, None, length, take}
use Rattle.std.specs.Int.{w16}
use Rattle.row_formats.specs.Format.{number_bytes, write_items, AllFit}
use Rattle.row_codec.proofs.fields.write_slice.Given as goal

abbrev pub invariant-loop-item : goal.invariant-loop-item
invariant-loop-item g l =
    record {
      written : l.writer ≡ (l.fn.writer ++ number_bytes w16 (length l.items)) ++ write_items (λ last. g.T.RowField.format.write) None (take l.item-index l.items);
      fit : AllFit (λ last. g.T.RowField.format.fits) None (take l.item-index l.items);
    }
