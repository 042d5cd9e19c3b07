use Rattle.share_graph.specs.declared.facts.Node.{Node}
use Rattle.share_graph.specs.declared.facts.Node.TheVariants as node
use Rattle.region_work.specs.Fed.{fed_in}
use Rattle.access_report.proofs.FedGrants.{to_none, to_next, to_all}
use Rattle.access_report.proofs.feeding.add_to_all.Goals as goal

-- what a read past the end would give
abbrev blank : Node
blank = node.User (record { 0 = 0 }) (record { 0 = 0 })

pub loop-node-init : goal.loop-node-init
loop-node-init c = to_none c.args.nodes.now c.args.num (fed_in c.args.fed.now.entries)

pub loop-node-preserved : goal.loop-node-preserved
loop-node-preserved c =
    to_next c.args.nodes.now c.args.num (fed_in c.args.fed.now.entries) (fed_in c.loop-node.fed.entries) (fed_in c.add_fed.new.fed.entries) c.loop-node.node-index blank c.loop-node-test.true
    c.loop-node.invariant c.in_ok-add_fed.ensures

pub returns : goal.returns
returns c = to_all c.args.nodes.now c.args.num (fed_in c.args.fed.now.entries) (fed_in c.loop-node.fed.entries) c.loop-node.node-index c.loop-node-test.false c.loop-node.invariant
