use Rattle.std.proofs.Common.{List, Contains, sym, subst}
use Rattle.std.proofs.lemmas.List.{take_all}
use Rattle.share_graph.specs.declared.facts.Node.{Node}
use Rattle.share_graph.specs.declared.facts.Node.TheVariants as node
use Rattle.region_access.proofs.Dropped.{dropped_none, dropped_one}
use Rattle.region_access.proofs.dropping.drop_empty.Goals as goal

-- what a read past the end would give
abbrev blank : Node
blank = node.User (record { 0 = 0 }) (record { 0 = 0 })

pub loop-node-init : goal.loop-node-init
loop-node-init c = dropped_none c.args.table.now.entries c.args.nodes.now

pub loop-node-preserved : goal.loop-node-preserved
loop-node-preserved c =
    dropped_one c.args.table.now.entries c.loop-node.table.entries c.drop_place.new.table.entries c.args.nodes.now c.loop-node.node-index blank
    c.loop-node-test.true c.loop-node.invariant c.drop_place.ensures.own c.drop_place.ensures.facts c.drop_place.ensures.others

pub returns-clause-dropped : goal.returns-clause-dropped
returns-clause-dropped c at has =
    c.loop-node.invariant.dropped at (subst (λ (ns : List Node). Contains ns at) (sym (take_all c.loop-node.node-index c.args.nodes.now c.loop-node-test.false)) has)
