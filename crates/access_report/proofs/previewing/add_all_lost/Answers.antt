use Rattle.share_graph.specs.declared.facts.Node.{Node}
use Rattle.share_graph.specs.declared.facts.Node.TheVariants as node
use Rattle.access_report.proofs.Lost.{lost_none, lost_next, lost_all}
use Rattle.access_report.proofs.previewing.add_all_lost.Goals as goal

-- what a read past the end would give
abbrev blank : Node
blank = node.User (record { 0 = 0 }) (record { 0 = 0 })

pub loop-node-init : goal.loop-node-init
loop-node-init c = lost_none c.args.solved.now c.args.table.now.entries c.args.nodes.now c.args.lost.now.entries c.requires

pub loop-node-preserved : goal.loop-node-preserved
loop-node-preserved c =
    lost_next c.args.solved.now c.args.table.now.entries c.args.nodes.now c.loop-node.lost.entries c.add_lost.new.lost.entries c.loop-node.node-index blank c.loop-node-test.true
    c.in_ok-add_lost.ensures c.loop-node.invariant

pub returns : goal.returns
returns c = lost_all c.args.solved.now c.args.table.now.entries c.args.nodes.now c.loop-node.lost.entries c.loop-node.node-index c.loop-node-test.false c.loop-node.invariant
