use Rattle.std.proofs.Common.{get_or}
use Rattle.std.proofs.lemmas.List.Elements.{Contains-get_or}
use Rattle.share_graph.specs.declared.facts.Node.{Node}
use Rattle.share_graph.specs.declared.facts.Node.TheVariants as node
use Rattle.access_report.proofs.Begun.{begun_none, begun_next, begun_all}
use Rattle.access_report.proofs.spreading.begin.Goals as goal

-- what a read past the end would give
abbrev blank : Node
blank = node.User (record { 0 = 0 }) (record { 0 = 0 })

pub loop-node-init : goal.loop-node-init
loop-node-init c = record {
  told = c.requires.told;
  begun = begun_none c.args.tables.now c.args.fed.now.entries c.args.nodes.now c.args.work.now.table.entries c.args.work.now.queue;
}

pub begin_at-requires-clause-place : goal.begin_at-requires-clause-place
begin_at-requires-clause-place c =
    c.loop-node.invariant.begun.more.places (get_or c.args.nodes.now c.loop-node.node-index blank)
    (c.requires.places (get_or c.args.nodes.now c.loop-node.node-index blank) (Contains-get_or c.args.nodes.now c.loop-node.node-index blank c.loop-node-test.true))

pub loop-node-preserved : goal.loop-node-preserved
loop-node-preserved c = record {
  told = c.in_ok-begin_at.ensures.told;
  begun = begun_next c.args.tables.now c.args.fed.now.entries c.args.nodes.now c.args.work.now.table.entries c.loop-node.work.table.entries c.begin_at.new.work.table.entries c.args.work.now.queue
      c.loop-node.work.queue c.begin_at.new.work.queue c.loop-node.node-index blank c.loop-node-test.true c.loop-node.invariant.begun c.in_ok-begin_at.ensures.begun;
}

pub returns-clause-begun : goal.returns-clause-begun
returns-clause-begun c =
    begun_all c.args.tables.now c.args.fed.now.entries c.args.nodes.now c.args.work.now.table.entries c.loop-node.work.table.entries c.args.work.now.queue c.loop-node.work.queue c.loop-node.node-index
    c.loop-node-test.false c.loop-node.invariant.begun
