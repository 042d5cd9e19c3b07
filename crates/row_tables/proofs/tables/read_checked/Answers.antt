use Rattle.std.proofs.Common.{inr}
use Rattle.row_tables.proofs.tables.read_checked.Goals as goal

pub returns-in-Err-clause-exact : goal.returns-in-Err-clause-exact
returns-in-Err-clause-exact c = inr (c.in_ok-tables.tables, c.in_ok-tables.ensures.exact, (c.in-Err.fault, c.in-Err.ensures.first, c.bad_ref.ensures))
