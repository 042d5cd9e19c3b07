use Rattle.std.proofs.Common.{get_or}
use Rattle.std.proofs.lemmas.List.Elements.{Contains-get_or}
use Rattle.share_graph.specs.declared.facts.Node.{Node}
use Rattle.share_graph.specs.declared.facts.Node.TheVariants as node
use Rattle.access_report.proofs.Lifted.{filled_none, filled_next, filled_all}
use Rattle.access_report.proofs.Joined.{has_same, has_then}
use Rattle.access_report.proofs.lifting.fill.Goals as goal

-- what a read past the end would give
abbrev blank : Node
blank = node.User (record { 0 = 0 }) (record { 0 = 0 })

pub loop-node-init : goal.loop-node-init
loop-node-init c = record {
  more = has_same c.args.table.now.entries;
  filled = λ nodes empty. filled_none c.args.tables.now c.args.solved.now nodes c.args.known.now c.args.table.now.entries;
}

pub fill_at-requires-clause-place : goal.fill_at-requires-clause-place
fill_at-requires-clause-place c =
    c.loop-node.invariant.more.places (get_or c.args.known.now c.loop-node.node-index blank)
    (c.requires.places (get_or c.args.known.now c.loop-node.node-index blank) (Contains-get_or c.args.known.now c.loop-node.node-index blank c.loop-node-test.true))

pub loop-node-preserved : goal.loop-node-preserved
loop-node-preserved c = record {
  more = has_then c.args.table.now.entries c.loop-node.table.entries c.fill_at.new.table.entries c.loop-node.invariant.more c.fill_at.ensures.more;
  filled = λ nodes empty.
      filled_next c.args.tables.now c.args.solved.now nodes c.args.known.now c.args.table.now.entries c.loop-node.table.entries c.fill_at.new.table.entries c.loop-node.node-index blank
      c.loop-node-test.true (c.fill_at.ensures.filled nodes empty) (c.loop-node.invariant.filled nodes empty);
}

pub returns-clause-filled : goal.returns-clause-filled
returns-clause-filled c nodes empty =
    filled_all c.args.tables.now c.args.solved.now nodes c.args.known.now c.args.table.now.entries c.loop-node.table.entries c.loop-node.node-index c.loop-node-test.false
    (c.loop-node.invariant.filled nodes empty)
