use Rattle.std.proofs.Common.{take}
use Rattle.access_report.specs.Resting.{AreFedBy}
use Rattle.access_report.proofs.resting.push_all_feeders.Given as goal

abbrev pub invariant-loop-num : goal.invariant-loop-num
invariant-loop-num l = AreFedBy l.tables l.initial.nodes.items (take l.num-index l.grants) l.nodes.items
