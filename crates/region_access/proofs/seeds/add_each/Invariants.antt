use Rattle.region_access.proofs.Ends.{Gathers}
use Rattle.region_access.proofs.seeds.add_each.Given as goal

abbrev pub invariant-loop-nums : goal.invariant-loop-nums
invariant-loop-nums l = Gathers l.tables l.nodes.items l.nums-iterator l.fn.nodes.items l.fn.entries
