use Rattle.access_report.proofs.KeptSteps.{MovedBelow}
use Rattle.access_report.proofs.pruning.moved.Given as goal

abbrev pub invariant-loop-at : goal.invariant-loop-at
invariant-loop-at l = MovedBelow l.places l.from l.to.items l.at-index
