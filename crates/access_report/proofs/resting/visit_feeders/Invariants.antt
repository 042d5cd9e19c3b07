use Rattle.std.proofs.Common.{take}
use Rattle.access_report.specs.Resting.{AreVisited}
use Rattle.access_report.proofs.resting.visit_feeders.Given as goal

abbrev pub invariant-loop-node : goal.invariant-loop-node
invariant-loop-node l = AreVisited (take l.node-index l.node-items) l.initial.nodes.items l.nodes.items l.places.entries
