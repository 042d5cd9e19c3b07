use Rattle.std.proofs.Common.{List, Contains}
use Rattle.host_base.specs.declared.ids.GrantId.{GrantId}
use Rattle.region_access.specs.Adding.{IsNewIn, MayAdd}
use Rattle.region_access.specs.Indexed.{listed_in}
use Rattle.region_access.proofs.TakenOut.{Left}
use Rattle.region_access.proofs.adding_all.remove_edges.Given as goal

abbrev pub invariant-loop-key : goal.invariant-loop-key
invariant-loop-key g l = (base : _ → List GrantId) → IsNewIn l.num base → MayAdd (Contains l.from) l.num base (listed_in g.K.Ord.cmp l.fn.edges.entries) → MayAdd (Left l.from l.key-index) l.num base (listed_in g.K.Ord.cmp l.edges.entries)
