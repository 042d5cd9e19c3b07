use Rattle.std.proofs.Common.{take, Some, refl}
use Rattle.share_graph.specs.Keys.{HasReference}
use Rattle.table_check.proofs.Absent.{all_absent, first_present}
use Rattle.table_check.proofs.fresh.no_reference.Goals as goal

pub returns-in-None : goal.returns-in-None
returns-in-None c = (λ _. all_absent (HasReference c.args.digest.now) (take c.args.place c.args.saved.now) c.in-None.ensures, λ _. refl)

pub returns-in-Some : goal.returns-in-Some
returns-in-Some c = (λ no. cc, λ all. absurd (first_present (HasReference c.args.digest.now) (take c.args.place c.args.saved.now) _ c.in-Some.ensures all))
