use Rattle.access_report.proofs.Marked.{MarkedBelow}
use Rattle.access_report.proofs.pruning.mark_all.Given as goal

abbrev pub invariant-loop-at : goal.invariant-loop-at
invariant-loop-at l = MarkedBelow l.initial.marks l.marks l.place l.from l.at-index
