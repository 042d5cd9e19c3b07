use Rattle.share_graph.specs.declared.facts.Node.{Node}
use Rattle.share_graph.specs.declared.facts.Node.TheVariants as node
use Rattle.region_work.specs.Fed.{fed_in}
use Rattle.region_access.proofs.Arrived.{arrivals_one, arrivals_all}
use Rattle.region_access.proofs.arriving.collect.Goals as goal

-- what a read past the end would give
abbrev blank : Node
blank = node.User (record { 0 = 0 }) (record { 0 = 0 })

pub loop-node-preserved : goal.loop-node-preserved
loop-node-preserved c =
    let (t, arrivals) = c.requires.arrivals in
    rw (c.in-Ok.ensures.items, c.fed_by.ensures)
    (arrivals_one t c.args.nodes.now c.requires.once (fed_in c.args.into.now.entries) arrivals c.loop-node.grants.items c.loop-node.node-index blank c.loop-node-test.true c.loop-node.invariant)

pub returns : goal.returns
returns c = arrivals_all c.args.nodes.now (fed_in c.args.into.now.entries) c.loop-node.grants.items c.loop-node.node-index c.loop-node-test.false c.loop-node.invariant
