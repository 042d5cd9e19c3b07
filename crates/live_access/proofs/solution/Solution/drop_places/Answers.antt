use Rattle.std.proofs.Common.{List, Contains, sym, ◌∙◌, ap, subst}
use Rattle.share_graph.specs.declared.facts.Node.{Node}
use Rattle.live_access.specs.contracts.solution.Solution.{the_view}
use Rattle.live_access.specs.Kept.{Kept, IsSolvedFor}
use Rattle.live_access.proofs.solution.Solution.drop_places.Goals as goal

pub returns-clause-dropped : goal.returns-clause-dropped
returns-clause-dropped c at has = c.drop_empty.ensures.dropped at (subst (λ (ns : List Node). Contains ns at) (sym c.as_slice.ensures.value) has)

pub returns-clause-solved : goal.returns-clause-solved
returns-clause-solved c t solved =
    let was = subst (λ (kept : Kept). IsSolvedFor t kept) (sym (ap the_view c.self-inside.view_is ∙ c.self.view_is)) solved in
    let facts = c.drop_empty.ensures.facts in
    record {
      solution = λ at fact. (λ h. (was.solution at fact).0 ((facts at fact).0 h), λ d. (facts at fact).1 ((was.solution at fact).1 d));
      indexes = was.indexes;
    }
