use Rattle.std.proofs.Common.{length, map, ◌-◌, ◌≤◌}
use Rattle.row_index.specs.Ways.{AreWaysOf}
use Rattle.row_index.proofs.ways.Ways.cover.Given as goal

abbrev pub invariant-loop-self : goal.invariant-loop-self
invariant-loop-self g l = AreWaysOf (map g.T.Keyed.link_of l.rows) l.self × (l.initial.self.covered ≤ l.self.covered)

abbrev pub decreases-loop-self : goal.decreases-loop-self
decreases-loop-self g l = length l.rows - l.self.covered
