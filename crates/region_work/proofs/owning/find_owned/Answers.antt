use Rattle.std.proofs.Common.{List, get_or, Contains, refl, sym, subst}
use Rattle.std.proofs.lemmas.List.{take_all}
use Rattle.std.proofs.lemmas.List.Elements.{Contains-get_or}
use Rattle.share_graph.specs.declared.facts.Node.{Node}
use Rattle.share_graph.specs.declared.facts.Node.TheVariants as node
use Rattle.region_work.proofs.Owned.{owned_one}
use Rattle.region_work.proofs.owning.find_owned.Goals as goal

-- what a read past the end would give
abbrev blank : Node
blank = node.User (record { 0 = 0 }) (record { 0 = 0 })

pub find_own-requires-clause-place : goal.find_own-requires-clause-place
find_own-requires-clause-place g c =
    let at : Node = get_or c.args.nodes.now c.loop-node.node-index blank in
    (c.loop-node.invariant.finds.places at).1 (c.requires.places at (Contains-get_or c.args.nodes.now c.loop-node.node-index blank c.loop-node-test.true))

pub loop-node-preserved : goal.loop-node-preserved
loop-node-preserved g c =
    owned_one (g.V.Probe.tables c.args.probe.now) c.args.nodes.now c.args.waiting.now c.loop-node.waiting c.find_own.new.waiting c.loop-node.node-index blank
    c.loop-node-test.true c.loop-node.invariant c.find_own.ensures.finds c.find_own.ensures.sound c.find_own.ensures.owners

pub returns-clause-owners : goal.returns-clause-owners
returns-clause-owners g c num grain app fact has o is =
    let whole = take_all c.loop-node.node-index c.args.nodes.now c.loop-node-test.false in
    let at : Node = node.User num grain.owner in
    c.loop-node.invariant.owners at (subst (λ (ns : List Node). Contains ns at) (sym whole) has) num grain app fact refl o is
