use Rattle.share_graph.specs.Fitting.{IsAssignmentFor}
use Rattle.table_check.proofs.Fits.{for_app, for_no_app}
use Rattle.table_check.proofs.fitting.assignment_fits.Goals as goal

pub returns-in-None : goal.returns-in-None
returns-in-None c = for_no_app c.args.tables.now c.args.grant.now.grain (λ app. IsAssignmentFor app.manifest c.args.grant.now.assignment) c.in-None.ensures

pub returns-in-Some : goal.returns-in-Some
returns-in-Some c =
    for_app c.args.tables.now c.args.grant.now.grain (λ app. IsAssignmentFor app.manifest c.args.grant.now.assignment) c.in-Some.app.now c.fits_manifest.result c.in-Some.ensures c.fits_manifest.ensures
