use Rattle.std.proofs.Common.{◌↔◌, ◌⊎◌, List, Contains, sym, subst, inl, inr}
use Rattle.host_base.specs.declared.ids.GrainId.{GrainId}
use Rattle.share_graph.specs.declared.facts.Node.{Node}
use Rattle.region_work.proofs.Sums.{contains_none}
use Rattle.region_access.specs.Seeds.{IsSeedOfGrains}
use Rattle.region_access.proofs.seeds.seeds_of_app.Goals as goal

pub returns : goal.returns
returns c at =
    let none = subst (λ (xs : List Node). Contains xs at → ⊥) (sym c.new-nodes.ensures.items) (contains_none at) in
    let both = subst (λ (ns : List GrainId). Contains c.add_of_grains.new.nodes.items at ↔ (Contains c.new-nodes.result.items at ⊎ IsSeedOfGrains c.args.tables.now ns at)) c.as_slice.ensures.value (c.in_ok-add_of_grains.ensures at) in (
      λ has.
          elim (both.0 has) [
            | inl before ↦ absurd (none before)
            | inr (n, listed, is) ↦ (n, (c.in_ok-nums.ensures n).0 listed, is)
          ],
      λ (n, of, is). both.1 (inr (n, (c.in_ok-nums.ensures n).1 of, is)),
    )
