use Rattle.std.proofs.Common.{ℕ, ◌++◌, ◌≤◌, ◌<◌, length, ap, subst, ◌∙◌}
use Rattle.row_formats.specs.Format.{list}
use Rattle.row_codec.proofs.Joined.{on_ok}
use Rattle.row_codec.proofs.fields.write_list.Goals as goal

pub returns-clause-written : goal.returns-clause-written
returns-clause-written g c =
    on_ok c.write_slice.result (λ put limit. put limit ∙ ap (λ items. c.args.writer.now ++ (list limit g.T.RowField.format).write items) c.as_slice.ensures) c.write_slice.ensures.written

pub returns-clause-fits : goal.returns-clause-fits
returns-clause-fits g c =
    on_ok c.write_slice.result (λ fits. subst (λ items. (limit : ℕ) → length items ≤ limit → limit < 65536 → (list limit g.T.RowField.format).fits items) c.as_slice.ensures fits) c.write_slice.ensures.fits
