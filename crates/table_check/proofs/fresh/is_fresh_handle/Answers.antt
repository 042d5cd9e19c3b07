use Rattle.std.proofs.Common.{take, Some, refl}
use Rattle.share_graph.specs.Keys.{HasHandle}
use Rattle.table_check.proofs.Absent.{all_absent, first_present}
use Rattle.table_check.proofs.fresh.is_fresh_handle.Goals as goal

pub returns-in-None : goal.returns-in-None
returns-in-None c = (λ _. all_absent (HasHandle c.args.account.now.handle) (take c.args.place c.args.tables.now.accounts) c.in-None.ensures, λ _. refl)

pub returns-in-Some : goal.returns-in-Some
returns-in-Some c = (λ no. cc, λ all. absurd (first_present (HasHandle c.args.account.now.handle) (take c.args.place c.args.tables.now.accounts) _ c.in-Some.ensures all))
