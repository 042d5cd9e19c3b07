use Rattle.std.proofs.Common.{◌≡◌, ◌+◌, ◌∷◌, [], Contains, length, ap, arith}
use Rattle.share_graph.proofs.Walks.{at_place}
use Rattle.share_graph.specs.declared.facts.Node.{Node}
use Rattle.least_access.proofs.Turns.{grant_id}
use Rattle.region_work.specs.Fed.{fed_in}
use Rattle.region_access.proofs.Arrived.{Arrives, arrives_one}
use Rattle.region_access.proofs.Indexed.{rows_fresh, rows_more, rows_all}
use Rattle.region_access.proofs.TakenOut.{added_all}
use Rattle.region_access.proofs.arriving.arrivals_of.Goals as goal

pub add_edges-requires : goal.add_edges-requires
add_edges-requires c = rows_fresh Arrives c.args.tables.now c.loop-place.place (fed_in c.loop-place.into.entries) c.loop-place.invariant

pub loop-place-preserved : goal.loop-place-preserved
loop-place-preserved c =
    let t = c.args.tables.now in
    let i = c.loop-place.place in
    let old = fed_in c.loop-place.into.entries in
    let new = fed_in c.add_edges.new.edges.entries in
    let node : Node = c.node_of.result in
    let there = at_place t.grants c.as_slice-grant-items.result.now i c.grant-item.result c.as_slice-grant-items.ensures c.loop-place-test.true c.grant-item.is in
    let fresh = rows_fresh Arrives t i old c.loop-place.invariant in
    rows_more Arrives t i c.grant-item.result there (Contains (node ∷ [])) (arrives_one (grant_id (i + 1)) c.grant-item.result node c.node_of.ensures) old new c.loop-place.invariant
    (added_all (Contains (node ∷ [])) (grant_id (i + 1)) old new fresh c.add_edges.ensures.may c.in_ok-add_edges.ensures.all)

pub returns : goal.returns
returns c =
    rows_all Arrives c.args.tables.now c.loop-place.place (fed_in c.loop-place.into.entries)
    (let same : length c.as_slice-grant-items.result.now ≡ length c.args.tables.now.grants = ap length c.as_slice-grant-items.ensures in omega arith) c.loop-place.invariant
