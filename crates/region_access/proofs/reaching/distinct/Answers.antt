use Rattle.std.proofs.Common.{List, Contains, inl, inr, subst}
use Rattle.share_graph.specs.declared.facts.Node.{Node}
use Rattle.region_work.proofs.Sums.{contains_none}
use Rattle.region_access.proofs.reaching.distinct.Goals as goal

pub returns-clause-same : goal.returns-clause-same
returns-clause-same c at = (
  λ has.
      elim (c.in_ok-add_seeds.ensures.only at has) [
        | inl before ↦ absurd (contains_none at (subst (λ (xs : List Node). Contains xs at) c.new-found.ensures.items before))
        | inr seed ↦ seed
      ],
  λ has. c.in_ok-add_seeds.ensures.all at has,
)
