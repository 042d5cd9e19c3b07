use Rattle.least_access.proofs.Lacking.{MetBelow}
use Rattle.least_access.proofs.missing.first_unmet.Given as goal

abbrev pub invariant-loop-index : goal.invariant-loop-index
invariant-loop-index l = MetBelow l.tables l.needs l.index
