use Rattle.access_report.proofs.Told.{OwnedBelow}
use Rattle.access_report.proofs.telling.tell_owned.Given as goal

abbrev pub invariant-loop-pos : goal.invariant-loop-pos
invariant-loop-pos l = OwnedBelow l.node l.held l.fn.trace l.trace l.pos
