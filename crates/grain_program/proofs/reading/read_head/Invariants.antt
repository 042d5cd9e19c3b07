use Rattle.std.proofs.Common.{◌≡◌, ◌-◌, ◌≤◌, ℕ, List, Some, length}
use Rattle.front_http.specs.Pending.{HasNoEndBefore}
use Rattle.grain_program.specs.Reading.{IsHeldOf}
use Rattle.grain_program.proofs.reading.read_head.Given as goal

abbrev pub invariant-pieces : goal.invariant-pieces
invariant-pieces g l = record {
  counts : (g.I.Source.inlet l.fn.input).faults ≤ (g.I.Source.inlet l.input).faults;
  searched : HasNoEndBefore l.from l.held.items;
  same : (bytes : List ℕ) → (g.I.Source.inlet l.fn.input).left ≡ Some bytes → IsHeldOf bytes l.held.items (g.I.Source.inlet l.input).left;
}

abbrev pub decreases-pieces : goal.decreases-pieces
decreases-pieces g l = 2097153 - length l.held.items
