use Rattle.std.proofs.Common.{List, Contains, subst, inl, inr}
use Rattle.share_graph.specs.declared.facts.Node.{Node}
use Rattle.region_work.proofs.Sums.{contains_none}
use Rattle.region_access.proofs.seeds.grant_node.Goals as goal

pub returns : goal.returns
returns c at =
    let both = c.in_ok-push_some.ensures at in
    let one = c.node_there.ensures at in (
      λ has.
          elim (both.0 has) [
            | inl none ↦ absurd (contains_none at (subst (λ (xs : List Node). Contains xs at) c.new-nodes.ensures.items none))
            | inr here ↦ one.0 here
          ],
      λ is. both.1 (inr (one.1 is)),
    )
