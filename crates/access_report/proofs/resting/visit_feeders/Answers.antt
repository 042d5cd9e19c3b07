use Rattle.std.proofs.Common.{[], List, subst}
use Rattle.share_graph.specs.declared.facts.Node.{Node}
use Rattle.share_graph.specs.declared.facts.Node.TheVariants as node
use Rattle.access_report.specs.Resting.{AreFedBy, AreVisited}
use Rattle.access_report.proofs.Backwards.{visited_none, visited_next, visited_all}
use Rattle.access_report.proofs.resting.visit_feeders.Goals as goal

-- what a read past the end would give
abbrev blank : Node
blank = node.User (record { 0 = 0 }) (record { 0 = 0 })

pub loop-node-init : goal.loop-node-init
loop-node-init c = visited_none c.args.nodes.now.items c.args.places.now.entries c.requires.visited

pub loop-node-preserved : goal.loop-node-preserved
loop-node-preserved c =
    visited_next c.as_slice-node-items.result.now c.args.nodes.now.items c.loop-node.nodes.items c.visit.new.nodes.items c.loop-node.places.entries c.visit.new.places.entries c.loop-node.node-index blank
    c.loop-node-test.true c.loop-node.invariant c.in_ok-visit.ensures

pub returns : goal.returns
returns c =
    let feeding = c.push_all_feeders.new.nodes.items in
    let fed : AreFedBy c.args.tables.now [] c.args.grants.now feeding =
    subst (λ (ns : List Node). AreFedBy c.args.tables.now ns c.args.grants.now feeding) c.new-feeding.ensures.items c.in_ok-push_all_feeders.ensures in
    let visits = visited_all c.as_slice-node-items.result.now c.args.nodes.now.items c.loop-node.nodes.items c.loop-node.places.entries c.loop-node.node-index c.loop-node-test.false c.loop-node.invariant in
    (feeding, fed, subst (λ (ns : List Node). AreVisited ns c.args.nodes.now.items c.loop-node.nodes.items c.loop-node.places.entries) c.as_slice-node-items.ensures.value visits)
