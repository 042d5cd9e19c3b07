use Rattle.std.proofs.Common.{◌≡◌, ◌+◌}
use Rattle.table_check.proofs.Walks.{AtEachBelow}
use Rattle.table_check.proofs.numbering.are_numbered.Given as goal

abbrev pub invariant-loop-place : goal.invariant-loop-place
invariant-loop-place g l = AtEachBelow l.rows (λ i row. g.R.Numbered.num_of row ≡ i + 1) l.place
