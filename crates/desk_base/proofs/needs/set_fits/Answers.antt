use Rattle.std.proofs.Common.{length}
use Rattle.desk_base.specs.Terms.{IsWithin}
use Rattle.desk_base.proofs.GivenRoles.{for_app, for_no_app}
use Rattle.desk_base.proofs.needs.set_fits.Goals as goal

pub returns-in-None : goal.returns-in-None
returns-in-None c = for_no_app c.args.tables.now c.args.num (λ app. IsWithin c.args.set.now (length app.manifest.permissions)) c.in-None.ensures

pub returns-in-Some : goal.returns-in-Some
returns-in-Some c =
    for_app c.args.tables.now c.args.num (λ app. IsWithin c.args.set.now (length app.manifest.permissions)) c.in-Some.app.now c.fits.result c.in-Some.ensures (rw c.as_slice.ensures at c.fits.ensures.answer)
