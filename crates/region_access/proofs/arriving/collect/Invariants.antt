use Rattle.std.proofs.Common.{take}
use Rattle.region_access.specs.Arriving.{IsArrivalsAt}
use Rattle.region_work.specs.Fed.{fed_in}
use Rattle.region_access.proofs.arriving.collect.Given as goal

abbrev pub invariant-loop-node : goal.invariant-loop-node
invariant-loop-node l = IsArrivalsAt (take l.node-index l.nodes) (fed_in l.into.entries) l.grants.items
