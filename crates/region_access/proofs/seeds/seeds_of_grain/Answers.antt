use Rattle.std.proofs.Common.{List, Contains, sym, subst, inl, inr}
use Rattle.share_graph.specs.declared.facts.Node.{Node}
use Rattle.region_work.proofs.Sums.{contains_none}
use Rattle.region_access.proofs.seeds.seeds_of_grain.Goals as goal

pub returns : goal.returns
returns c at =
    let none = subst (λ (xs : List Node). Contains xs at → ⊥) (sym c.new-nodes.ensures.items) (contains_none at) in
    let both = c.in_ok-add_of_grain.ensures at in (
      λ has. elim (both.0 has) [ inl before ↦ absurd (none before) | inr is ↦ is ],
      λ is. both.1 (inr is),
    )
