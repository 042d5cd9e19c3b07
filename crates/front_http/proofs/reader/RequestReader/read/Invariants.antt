use Rattle.std.proofs.Common.{◌≡◌, ◌-◌, ◌≤◌, ◌++◌, ℕ, List, Some, false, length}
use Rattle.front_http.proofs.reader.RequestReader.read.Given as goal

abbrev pub invariant-pieces : goal.invariant-pieces
invariant-pieces g l = record {
  counts : (g.I.Source.inlet l.fn.input).faults ≤ (g.I.Source.inlet l.input).faults;
  whole : (g.I.Source.inlet l.input).whole ≡ (g.I.Source.inlet l.fn.input).whole;
  at : l.self.at ≡ l.fn.self.at;
  closed : l.self.closed ≡ false;
  stopped : l.self.stopped ≡ l.fn.self.stopped;
  same : (left : List ℕ) → (g.I.Source.inlet l.fn.input).left ≡ Some left →
      (rest : List ℕ) × ((g.I.Source.inlet l.input).left ≡ Some rest) × (l.self.held ++ rest ≡ l.fn.self.held ++ left);
}

abbrev pub decreases-pieces : goal.decreases-pieces
decreases-pieces g l = 1064961 - length l.self.held
