use Rattle.std.proofs.Common.{◌≡◌, ◌+◌, Some, Option, take, get_or, subst}
use Rattle.share_graph.specs.declared.facts.Node.{Node}
use Rattle.share_graph.specs.declared.grants.Need.{Need}
use Rattle.region_access.specs.Adding.{Adds, IsNamed}
use Rattle.region_work.specs.Fed.{fed_in}
use Rattle.region_work.specs.Owed.{holder_of}
use Rattle.region_access.proofs.Added.{adds_both, named_more}
use Rattle.region_access.proofs.indexing.add_needs.Goals as goal

pub loop-need-preserved : goal.loop-need-preserved
loop-need-preserved c =
    let d : Need = c.need-item.result in
    let here : Need = get_or c.args.needs.now c.loop-need.need-index d in
    let step = subst (λ (from : Option Node). Adds (λ (at : Node). from ≡ Some at) c.args.num (fed_in c.loop-need.edges.entries) (fed_in c.add_from.new.edges.entries)) c.holder_of.ensures c.in_ok-add_from.ensures in
    let read = subst (λ (q : Need). Adds (λ (at : Node). holder_of q ≡ Some at) c.args.num (fed_in c.loop-need.edges.entries) (fed_in c.add_from.new.edges.entries)) c.need-item.is step in
    adds_both (IsNamed (take c.loop-need.need-index c.args.needs.now)) (λ (at : Node). holder_of here ≡ Some at) (IsNamed (take (c.loop-need.need-index + 1) c.args.needs.now)) c.args.num
    (fed_in c.args.edges.now.entries) (fed_in c.loop-need.edges.entries) (fed_in c.add_from.new.edges.entries)
    (λ at. named_more c.args.needs.now c.loop-need.need-index d c.loop-need-test.true at) c.loop-need.invariant read
