use Rattle.std.proofs.Common.{List, Contains, subst, inl, inr}
use Rattle.share_graph.specs.declared.facts.Node.{Node}
use Rattle.region_work.proofs.Sums.{contains_none}
use Rattle.region_access.proofs.seeds.seeds_of_admin.Goals as goal

pub returns : goal.returns
returns c at =
    let both = c.in_ok-add_tied.ensures at in (
      λ has.
          elim (both.0 has) [
            | inl before ↦ absurd (contains_none at (subst (λ (xs : List Node). Contains xs at) c.new-nodes.ensures.items before))
            | inr is ↦ is
          ],
      λ is. both.1 (inr is),
    )
