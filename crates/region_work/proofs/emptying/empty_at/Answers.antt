use Rattle.share_graph.specs.declared.facts.Node.{Node}
use Rattle.share_graph.specs.declared.facts.Node.TheVariants as node
use Rattle.region_work.proofs.Emptied.{empty_one}
use Rattle.region_work.proofs.emptying.empty_at.Goals as goal

-- what a read past the end would give
abbrev blank : Node
blank = node.User (record { 0 = 0 }) (record { 0 = 0 })

pub loop-node-preserved : goal.loop-node-preserved
loop-node-preserved c =
    empty_one c.args.nodes.now c.loop-node.node-index blank c.loop-node.table.entries c.add_place.new.table.entries c.loop-node-test.true c.loop-node.invariant c.in_ok-add_place.ensures.ok
