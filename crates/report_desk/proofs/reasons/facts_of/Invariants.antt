use Rattle.std.proofs.Common.{◌+◌}
use Rattle.report_desk.proofs.Facts.{AreBefore}
use Rattle.report_desk.proofs.reasons.facts_of.Given as goal

abbrev pub invariant-loop-pos : goal.invariant-loop-pos
invariant-loop-pos l = AreBefore l.held l.facts.items (l.pos + 1)
