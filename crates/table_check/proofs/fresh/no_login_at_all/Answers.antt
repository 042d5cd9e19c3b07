use Rattle.std.proofs.Common.{take, Some, refl}
use Rattle.share_graph.specs.Keys.{HasLogin}
use Rattle.table_check.proofs.Absent.{all_absent, one_present}
use Rattle.table_check.proofs.fresh.no_login_at_all.Goals as goal

pub returns-in-None : goal.returns-in-None
returns-in-None c = (λ _. all_absent (HasLogin c.args.digest.now) c.args.tables.now.accounts c.in-None.ensures, λ _. refl)

pub returns-in-Some : goal.returns-in-Some
returns-in-Some c = (λ no. cc, λ all. absurd (one_present (HasLogin c.args.digest.now) c.args.tables.now.accounts _ c.in-Some.ensures all))
