use Rattle.access_report.proofs.FoundNodes.{AreAdded}
use Rattle.access_report.proofs.finding.add_grants.Given as goal

abbrev pub invariant-loop-num : goal.invariant-loop-num
invariant-loop-num l = AreAdded l.tables l.fn.grain l.solved l.fn.found.entries l.found.entries l.grants l.num-index
