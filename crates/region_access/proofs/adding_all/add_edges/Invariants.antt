use Rattle.region_access.specs.Indexed.{listed_in}
use Rattle.region_access.proofs.TakenOut.{AddedBelow}
use Rattle.region_access.proofs.adding_all.add_edges.Given as goal

abbrev pub invariant-loop-key : goal.invariant-loop-key
invariant-loop-key g l = AddedBelow l.from l.key-index l.num (listed_in g.K.Ord.cmp l.fn.edges.entries) (listed_in g.K.Ord.cmp l.edges.entries)
