use Rattle.access_report.proofs.KeptSteps.{KeptBelow}
use Rattle.access_report.proofs.pruning.kept_by.Given as goal

abbrev pub invariant-loop-place : goal.invariant-loop-place
invariant-loop-place l = KeptBelow l.steps l.marks l.kept.items l.places.items l.place
