use Rattle.std.proofs.Common.{List, take}
use Rattle.share_graph.specs.declared.facts.Node.{Node}
use Rattle.region_work.specs.Emptying.{IsEmptyAt}
use Rattle.access_report.specs.Lifting.{AreFilled}
use Rattle.access_report.specs.Turns.{HasMore}
use Rattle.access_report.proofs.lifting.fill.Given as goal

abbrev pub invariant-loop-node : goal.invariant-loop-node
invariant-loop-node l = record {
  more : HasMore l.initial.table.entries l.table.entries;
  filled : (nodes : List Node) → IsEmptyAt nodes l.region.entries → AreFilled l.tables l.solved nodes (take l.node-index l.known) l.initial.table.entries l.table.entries;
}
