use Rattle.std.proofs.Common.{arith}
use Rattle.row_formats.proofs.Fits.{set_fits}
use Rattle.row_formats.proofs.writer.Writer.set.Goals as goal

pub returns-clause-fits : goal.returns-clause-fits
returns-clause-fits c = set_fits c.args.positions.now (omega (arith, c.bits.ensures.word, c.u64.ensures.fits))
