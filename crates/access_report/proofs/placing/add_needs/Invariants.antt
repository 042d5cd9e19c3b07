use Rattle.access_report.proofs.Placed.{Keeps, CitesBelow}
use Rattle.access_report.proofs.placing.add_needs.Given as goal

abbrev pub invariant-loop-need : goal.invariant-loop-need
invariant-loop-need l = record {
  keeps : Keeps l.fn.from.items l.from.items;
  cited : CitesBelow l.trace l.needs l.from.items l.need-index;
}
