use Rattle.std.proofs.Common.{◌≡◌, ◌∙◌, Some, sym}
use Rattle.share_graph.specs.declared.grants.Need.{Need}
use Rattle.region_work.specs.Owed.{holder_of}
use Rattle.region_access.proofs.Picked.{gathered_more, gathered_all}
use Rattle.region_access.proofs.fed_grant.add_holders.Goals as goal

pub loop-need-preserved : goal.loop-need-preserved
loop-need-preserved c at =
    gathered_more (λ (q : Need). holder_of q ≡ Some at) c.args.needs.now c.loop-need.need-index c.need-item.result _ _ _ _ c.loop-need-test.true c.need-item.is (c.loop-need.invariant at)
    (λ one. sym c.holder_of.ensures ∙ one, λ one. c.holder_of.ensures ∙ one) (c.in_ok-push_some.ensures at)

pub returns : goal.returns
returns c at = gathered_all (λ (q : Need). holder_of q ≡ Some at) c.args.needs.now c.loop-need.need-index _ _ c.loop-need-test.false (c.loop-need.invariant at)
