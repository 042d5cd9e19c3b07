use Rattle.std.proofs.Common.{take}
use Rattle.region_work.specs.Emptying.{IsEmptyAt}
use Rattle.region_work.proofs.emptying.empty_at.Given as goal

abbrev pub invariant-loop-node : goal.invariant-loop-node
invariant-loop-node l = IsEmptyAt (take l.node-index l.nodes) l.table.entries
