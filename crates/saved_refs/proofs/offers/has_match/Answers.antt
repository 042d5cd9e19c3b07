use Rattle.std.proofs.Common.{IsTrue, is_some}
use Rattle.powerbox_match.specs.Matching.{match_of}
use Rattle.desk_base.proofs.GivenRoles.{for_no_app}
use Rattle.saved_refs.proofs.offers.has_match.Goals as goal

pub returns-in-None : goal.returns-in-None
returns-in-None c = for_no_app c.args.tables.now c.args.num (λ app. IsTrue (is_some (match_of c.args.query.now app.manifest.match_requests))) c.in-None.ensures
