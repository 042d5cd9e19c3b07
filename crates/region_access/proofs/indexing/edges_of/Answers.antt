use Rattle.std.proofs.Common.{◌≡◌, length, ap, arith}
use Rattle.share_graph.proofs.Walks.{at_place}
use Rattle.region_work.specs.Fed.{fed_in}
use Rattle.region_access.proofs.Added.{index_one, index_all}
use Rattle.region_access.proofs.indexing.edges_of.Goals as goal

pub loop-place-preserved : goal.loop-place-preserved
loop-place-preserved c =
    index_one c.args.tables.now (fed_in c.loop-place.edges.entries) (fed_in c.add_grant.new.edges.entries) c.loop-place.place c.grant-item.result
    (at_place c.args.tables.now.grants c.as_slice-grant-items.result.now c.loop-place.place c.grant-item.result c.as_slice-grant-items.ensures c.loop-place-test.true c.grant-item.is)
    c.loop-place.invariant c.in_ok-add_grant.ensures

pub returns : goal.returns
returns c =
    index_all c.args.tables.now (fed_in c.loop-place.edges.entries) c.loop-place.place c.loop-place.invariant
    (let same : length c.as_slice-grant-items.result.now ≡ length c.args.tables.now.grants = ap length c.as_slice-grant-items.ensures in omega arith)
