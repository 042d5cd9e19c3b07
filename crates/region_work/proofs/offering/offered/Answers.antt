use Rattle.region_work.proofs.offering.offered.Goals as goal

pub given_by-requires-clause-manifest : goal.given_by-requires-clause-manifest
given_by-requires-clause-manifest c = let (grain, is, of) = c.in_ok-app.ensures in c.requires.coherent.apps grain.app c.in_ok-app.app.now of

pub given_by-requires-clause-assignment : goal.given_by-requires-clause-assignment
given_by-requires-clause-assignment c = c.requires.fits c.in_ok-app.app.now c.in_ok-app.ensures
