use Rattle.std.proofs.Common.{None}
use Rattle.table_check.proofs.Walks.{AtEachBelow}
use Rattle.table_check.proofs.checking.check_rows.Given as goal

abbrev pub invariant-loop-place : goal.invariant-loop-place
invariant-loop-place g l = AtEachBelow l.rows (λ k row. g.R.CheckedRow.has l.tables k row None) l.place
