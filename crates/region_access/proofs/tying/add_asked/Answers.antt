use Rattle.std.proofs.Common.{◌≡◌, ◌∙◌, Some, sym}
use Rattle.share_graph.specs.declared.grants.Need.{Need}
use Rattle.region_access.specs.Ties.{tie_of}
use Rattle.region_access.proofs.Picked.{gathered_more, gathered_all}
use Rattle.region_access.proofs.tying.add_asked.Goals as goal

pub loop-need-preserved : goal.loop-need-preserved
loop-need-preserved c on =
    gathered_more (λ (q : Need). tie_of q ≡ Some on) c.args.needs.now c.loop-need.need-index c.need-item.result _ _ _ _ c.loop-need-test.true c.need-item.is (c.loop-need.invariant on)
    (λ one. sym c.tie_of.ensures ∙ one, λ one. c.tie_of.ensures ∙ one) (c.in_ok-push_some.ensures on)

pub returns : goal.returns
returns c on = gathered_all (λ (q : Need). tie_of q ≡ Some on) c.args.needs.now c.loop-need.need-index _ _ c.loop-need-test.false (c.loop-need.invariant on)
