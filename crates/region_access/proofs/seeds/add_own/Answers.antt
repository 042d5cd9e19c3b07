use Rattle.std.proofs.Common.{◌≡◌, ◌+◌, ℕ, List, length, sym, ap, subst, inl, inr, arith}
use Rattle.host_base.specs.declared.ids.GrainId.{GrainId}
use Rattle.share_graph.proofs.Walks.{at_place}
use Rattle.share_graph.specs.declared.facts.Node.{Node}
use Rattle.share_graph.specs.declared.facts.Node.TheVariants as node
use Rattle.share_graph.specs.declared.rows.Grain.{Grain}
use Rattle.region_access.proofs.Picked.{PickedBelow, picked_one, picked_all}
use Rattle.region_access.proofs.seeds.add_own.Goals as goal

abbrev grain_id : ℕ → GrainId
grain_id n = record { 0 = n }

pub loop-place-preserved : goal.loop-place-preserved
loop-place-preserved c =
    let of : ℕ → Grain → Node = λ n grain. node.User (grain_id n) c.args.account in
    let there = at_place c.args.tables.now.grains c.as_slice-grain-items.result.now c.loop-place.place c._grain-item.result c.as_slice-grain-items.ensures c.loop-place-test.true c._grain-item.is in
    subst (λ (xs : List Node). PickedBelow c.args.tables.now.grains of c.args.nodes.now.items xs (c.loop-place.place + 1)) (sym c.in-Ok.ensures.items)
    (picked_one c.args.tables.now.grains of c.args.nodes.now.items c.loop-place.nodes.items c.loop-place.place c._grain-item.result there c.loop-place.invariant)

pub returns : goal.returns
returns c at =
    let of : ℕ → Grain → Node = λ n grain. node.User (grain_id n) c.args.account in
    let same : length c.as_slice-grain-items.result.now ≡ length c.args.tables.now.grains = ap length c.as_slice-grain-items.ensures in
    let both = picked_all c.args.tables.now.grains of c.args.nodes.now.items c.loop-place.nodes.items c.loop-place.place (omega arith) c.loop-place.invariant at in (
      λ has. elim (both.0 has) [ inl before ↦ inl before | inr (n, grain, is, one) ↦ inr (grain_id n, grain, is, one) ],
      elim [ inl before ↦ both.1 (inl before) | inr (g, grain, is, one) ↦ both.1 (inr (g.0, grain, is, one)) ],
    )
