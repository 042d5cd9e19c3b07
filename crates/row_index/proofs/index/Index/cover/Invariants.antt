use Rattle.std.proofs.Common.{length, ◌-◌, ◌≤◌}
use Rattle.row_index.specs.Index.{IsIndexOf}
use Rattle.row_index.proofs.index.Index.cover.Given as goal

abbrev pub invariant-loop-self : goal.invariant-loop-self
invariant-loop-self g l = IsIndexOf g.T.Keyed.clues_of l.rows g.T.Keyed.mark_of l.self × (l.initial.self.covered ≤ l.self.covered)

abbrev pub decreases-loop-self : goal.decreases-loop-self
decreases-loop-self g l = length l.rows - l.self.covered
