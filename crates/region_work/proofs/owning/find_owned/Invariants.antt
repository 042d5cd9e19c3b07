use Rattle.region_work.proofs.Owned.{OwnedBelow}
use Rattle.region_work.proofs.owning.find_owned.Given as goal

abbrev pub invariant-loop-node : goal.invariant-loop-node
invariant-loop-node g l = OwnedBelow (g.V.Probe.tables l.probe) l.nodes l.fn.waiting l.waiting l.node-index
