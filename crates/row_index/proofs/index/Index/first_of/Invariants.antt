use Rattle.std.proofs.Common.{length, ◌-◌}
use Rattle.row_index.specs.Marks.{NoneHasMark}
use Rattle.row_index.proofs.index.Index.first_of.Given as goal

abbrev pub invariant-loop-place : goal.invariant-loop-place
invariant-loop-place g l = NoneHasMark g.T.Keyed.mark_of l.mark l.rows l.place

abbrev pub decreases-loop-place : goal.decreases-loop-place
decreases-loop-place g l = length l.rows - l.place
