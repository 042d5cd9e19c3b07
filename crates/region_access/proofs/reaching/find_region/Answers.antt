use Rattle.std.proofs.Common.{◌<◌, ◌≤◌, List, length, Contains, inl, inr, subst, arith}
use Rattle.host_base.specs.declared.ids.GrantId.{GrantId}
use Rattle.share_graph.specs.declared.facts.Node.{Node}
use Rattle.region_work.specs.Fed.{fed_in}
use Rattle.region_access.specs.Reaching.{ReachesFrom}
use Rattle.region_work.proofs.Sums.{contains_none}
use Rattle.region_access.proofs.Visited.{grow_none, grow_one, grow_few, grown, at_any}
use Rattle.region_access.proofs.reaching.find_region.Goals as goal

pub loop-next-init : goal.loop-next-init
loop-next-init g c =
    grow_none (g.V.Probe.tables c.args.probe.now) c.args.seeds.now c.add_seeds.new.nodes.items c.add_seeds.new.places.entries c.in_ok-add_seeds.ensures.visited c.in_ok-add_seeds.ensures.all
    (λ at has.
    elim (c.in_ok-add_seeds.ensures.only at has) [
      | inl before ↦ absurd (contains_none at (subst (λ (xs : List Node). Contains xs at) c.new-nodes.ensures.items before))
      | inr seed ↦ seed
    ])

pub reach_from-requires-clause-rows : goal.reach_from-requires-clause-rows
reach_from-requires-clause-rows g c num has =
    let (grant, is, feeds) = c.requires.index.rows c.index-node.result.now num (subst (λ (gs : List GrantId). Contains gs num) c.fed_by.ensures has) in
    (grant, is)

pub loop-next-smaller : goal.loop-next-smaller
loop-next-smaller g c =
    let few = grow_few (g.V.Probe.tables c.args.probe.now) c.requires.coherent c.args.seeds.now c.loop-next.nodes.items c.loop-next.places.entries c.loop-next.next c.loop-next.invariant in
    let within = c.loop-next-test.true in
    let len = c.len.ensures in
    omega arith

pub loop-next-preserved : goal.loop-next-preserved
loop-next-preserved g c =
    let within : c.loop-next.next < length c.loop-next.nodes.items = omega arith in
    grow_one (g.V.Probe.tables c.args.probe.now) (fed_in c.args.edges.now.entries) c.requires.index c.args.seeds.now c.loop-next.nodes.items c.reach_from.new.nodes.items
    c.loop-next.places.entries c.reach_from.new.places.entries c.loop-next.next c.index-node.result.now within
    (at_any c.loop-next.nodes.items c.loop-next.next c.index-node.result.now within c.index-node.ensures) c.loop-next.invariant c.in_ok-reach_from.ensures.visited
    (subst (λ (gs : List GrantId). ReachesFrom (g.V.Probe.tables c.args.probe.now) gs c.loop-next.nodes.items c.reach_from.new.nodes.items) c.fed_by.ensures c.in_ok-reach_from.ensures.reaches)

pub returns : goal.returns
returns g c =
    let end : length c.loop-next.nodes.items ≤ c.loop-next.next = omega arith in
    grown (g.V.Probe.tables c.args.probe.now) c.requires.coherent c.args.seeds.now c.loop-next.nodes.items c.loop-next.places.entries c.loop-next.next end c.loop-next.invariant
