use Rattle.std.proofs.Common.{◌++◌, [], Option, ap, ◌∙◌}
use Rattle.std.specs.List.{cons_option}
use Rattle.share_graph.specs.declared.facts.Node.{Node}
use Rattle.access_report.proofs.Rested.{holders_next}
use Rattle.access_report.proofs.resting.push_holders.Goals as goal

pub loop-need-preserved : goal.loop-need-preserved
loop-need-preserved c =
    holders_next c.args.needs.now c.args.nodes.now.items c.loop-need.nodes.items c.push_some.new.nodes.items c.loop-need.need-index c.need-item.result c.loop-need-test.true c.need-item.is
    c.loop-need.invariant (c.in_ok-push_some.ensures ∙ ap (λ (o : Option Node). c.loop-need.nodes.items ++ cons_option o []) c.holder_of.ensures)
