use Rattle.std.proofs.Common.{◌++◌, ap, subst, ◌∙◌}
use Rattle.row_formats.proofs.Puts.{puts_on, all_put}
use Rattle.row_formats.proofs.Fits.{count_fits, fits_more, all_fit}
use Rattle.row_codec.proofs.fields.write_slice.Goals as goal

pub loop-item-preserved : goal.loop-item-preserved
loop-item-preserved g c = record {
  written =
      puts_on (λ last. g.T.RowField.format.write) c.args.items.now c.loop-item.item-index _ _ _ _ c.loop-item-test.true c.loop-item.invariant.written
      (c.in_ok-write_field.ensures.written ∙ ap (λ x. c.loop-item.writer ++ g.T.RowField.format.write x) c.item-item.is);
  fit = fits_more g.T.RowField.format.fits c.args.items.now c.loop-item.item-index c.item-item.result c.loop-item-test.true c.loop-item.invariant.fit (subst g.T.RowField.format.fits c.item-item.is c.in_ok-write_field.ensures.fits);
}

pub returns-clause-written : goal.returns-clause-written
returns-clause-written g c limit = all_put (λ last. g.T.RowField.format.write) c.args.items.now c.loop-item.item-index _ _ _ c.loop-item-test.false c.loop-item.invariant.written

pub returns-clause-fits : goal.returns-clause-fits
returns-clause-fits g c limit few small = (count_fits limit _ few small, all_fit g.T.RowField.format.fits c.args.items.now c.loop-item.item-index c.loop-item-test.false c.loop-item.invariant.fit)
