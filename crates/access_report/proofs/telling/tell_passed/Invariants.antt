use Rattle.access_report.proofs.Told.{PassedBelow}
use Rattle.access_report.proofs.telling.tell_passed.Given as goal

abbrev pub invariant-loop-pos : goal.invariant-loop-pos
invariant-loop-pos l = PassedBelow l.num l.grant l.passed l.before l.fn.trace l.trace l.pos
