use Rattle.std.proofs.Common.{List, Contains, subst, inl, inr}
use Rattle.share_graph.specs.declared.facts.Node.{Node}
use Rattle.region_work.proofs.Sums.{contains_none}
use Rattle.region_access.proofs.Ends.{none_ends, seeds_in_range}
use Rattle.region_access.proofs.seeds.seeds_of_tick.Goals as goal

pub returns-then-moment-tables : goal.returns-then-moment-tables
returns-then-moment-tables c at = (
  λ has. absurd (contains_none at (subst (λ (xs : List Node). Contains xs at) c.new-nodes.ensures.items has)),
  λ seed. absurd (none_ends c.args.tables.now c.args.moment at c.if-moment-tables.true seed),
)

pub returns : goal.returns
returns c at =
    let both = c.in_ok-add_each.ensures at in
    let seeds =
    seeds_in_range c.args.tables.now c.args.moment c.args.ties.now c.range.result _ _ c.new.ensures.start c.new.ensures.end
    (c.range.ensures.between c.new.ensures.exhausted) (c.range.ensures.in_range c.new.ensures.exhausted) c.requires at in (
      λ has. elim (both.0 has) [
        | inl before ↦ absurd (contains_none at (subst (λ (xs : List Node). Contains xs at) c.new-nodes.ensures.items before))
        | inr seed ↦ seeds.0 seed
      ],
      λ seed. both.1 (inr (seeds.1 seed)),
    )
