use Rattle.region_access.proofs.Dropped.{DroppedBelow}
use Rattle.region_access.proofs.dropping.drop_empty.Given as goal

abbrev pub invariant-loop-node : goal.invariant-loop-node
invariant-loop-node l = DroppedBelow l.fn.table.entries l.table.entries l.nodes l.node-index
