use Rattle.std.proofs.Common.{List, Contains, sym, subst}
use Rattle.share_graph.specs.declared.facts.Node.{Node}
use Rattle.region_access.proofs.preparing.fill_back.Goals as goal

pub returns-clause-dropped : goal.returns-clause-dropped
returns-clause-dropped c at has = c.drop_empty.ensures.dropped at (subst (λ (ns : List Node). Contains ns at) (sym c.as_slice-2.ensures.value) has)
