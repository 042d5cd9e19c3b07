use Rattle.access_report.proofs.Marked.{MarkedAbove}
use Rattle.access_report.proofs.pruning.mark_back.Given as goal

abbrev pub invariant-loop-back : goal.invariant-loop-back
invariant-loop-back l = MarkedAbove l.steps l.initial.marks l.marks l.back
