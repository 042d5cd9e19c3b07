use Rattle.std.proofs.Common.{◌≡◌, ◌-◌, ◌≤◌, ◌++◌, ℕ, List, Some, length}
use Rattle.grain_program.specs.Reading.{IsHeldOf}
use Rattle.grain_program.proofs.reading.read_on.Given as goal

abbrev pub invariant-pieces : goal.invariant-pieces
invariant-pieces g l = record {
  counts : (g.I.Source.inlet l.fn.input).faults ≤ (g.I.Source.inlet l.input).faults;
  same : (left : List ℕ) → (g.I.Source.inlet l.fn.input).left ≡ Some left → IsHeldOf (l.fn.held.items ++ left) l.held.items (g.I.Source.inlet l.input).left;
}

abbrev pub decreases-pieces : goal.decreases-pieces
decreases-pieces g l = l.length - length l.held.items
