use Rattle.std.proofs.Common.{get_or}
use Rattle.host_base.specs.declared.ids.GrainId.{GrainId}
use Rattle.region_access.specs.Seeds.{IsSeedOfGrain}
use Rattle.region_access.proofs.Cleared.{any_default}
use Rattle.region_access.proofs.GrainsOf.{grain_id}
use Rattle.region_access.proofs.Picked.{gathered_more, gathered_all}
use Rattle.region_access.proofs.seeds.add_of_grains.Goals as goal

pub loop-num-preserved : goal.loop-num-preserved
loop-num-preserved c at =
    let num : GrainId = get_or c.args.nums.now c.loop-num.num-index (grain_id 0) in
    gathered_more (λ (n : GrainId). IsSeedOfGrain c.args.tables.now n at) c.args.nums.now c.loop-num.num-index num _ _ _ _ c.loop-num-test.true
    (any_default c.args.nums.now c.loop-num.num-index (grain_id 0) num c.loop-num-test.true) (c.loop-num.invariant at) (λ is. is, λ is. is) (c.in_ok-add_of_grain.ensures at)

pub returns : goal.returns
returns c at = gathered_all (λ (n : GrainId). IsSeedOfGrain c.args.tables.now n at) c.args.nums.now c.loop-num.num-index _ _ c.loop-num-test.false (c.loop-num.invariant at)
