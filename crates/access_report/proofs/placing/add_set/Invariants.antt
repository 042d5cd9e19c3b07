use Rattle.access_report.proofs.Placed.{Keeps, CitesSet}
use Rattle.access_report.proofs.placing.add_set.Given as goal

abbrev pub invariant-loop-pos : goal.invariant-loop-pos
invariant-loop-pos l = record {
  keeps : Keeps l.fn.from.items l.from.items;
  cited : CitesSet l.trace l.set l.from.items l.node l.pos;
}
