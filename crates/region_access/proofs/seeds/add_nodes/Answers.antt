use Rattle.std.proofs.Common.{get_or}
use Rattle.host_base.specs.declared.ids.GrantId.{GrantId}
use Rattle.least_access.proofs.Turns.{grant_id}
use Rattle.region_access.specs.Seeds.{IsSeedOfGrant}
use Rattle.region_access.proofs.Cleared.{any_default}
use Rattle.region_access.proofs.Picked.{gathered_more, gathered_all}
use Rattle.region_access.proofs.seeds.add_nodes.Goals as goal

pub loop-num-preserved : goal.loop-num-preserved
loop-num-preserved c at =
    let num : GrantId = get_or c.args.nums.now c.loop-num.num-index (grant_id 0) in
    gathered_more (λ (g : GrantId). IsSeedOfGrant c.args.tables.now g at) c.args.nums.now c.loop-num.num-index num _ _ _ _ c.loop-num-test.true
    (any_default c.args.nums.now c.loop-num.num-index (grant_id 0) num c.loop-num-test.true) (c.loop-num.invariant at) (c.node_there.ensures at) (c.in_ok-push_some.ensures at)

pub returns : goal.returns
returns c at = gathered_all (λ (g : GrantId). IsSeedOfGrant c.args.tables.now g at) c.args.nums.now c.loop-num.num-index _ _ c.loop-num-test.false (c.loop-num.invariant at)
