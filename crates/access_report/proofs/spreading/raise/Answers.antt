use Rattle.std.proofs.Common.{sym, subst, inl, inr}
use Rattle.share_graph.specs.declared.facts.Node.{Node}
use Rattle.share_graph.specs.Nodes.{node_of}
use Rattle.share_graph.proofs.Least.{follows_more}
use Rattle.least_access.specs.Solved.{HeldAt}
use Rattle.access_report.specs.Telling.{IsSaid}
use Rattle.access_report.proofs.Begun.{told_joined}
use Rattle.access_report.proofs.spreading.raise.Goals as goal

pub returns-clause-told : goal.returns-clause-told
returns-clause-told c =
    let t = c.args.tables.now in
    let node = node_of c.args.num c.in-Some.grant.now in
    let old = c.args.table.now.entries in
    let then = c.tell_passed.new.trace in
    let told = c.in_ok-tell_passed.ensures in
    told_joined t c.args.trace.now then old c.join.new.table.entries c.node_of-node.result c.passed-gained.result _ c.in-Some-join.ensures told.adds.more
    (told.adds.sound t c.requires.told.sound
    (λ fact gained. follows_more t (HeldAt old) (IsSaid c.args.trace.now) c.requires.told.said c.args.num c.in-Some.grant.now node fact ((c.passed-gained.ensures fact).0 gained)))
    (λ fact gained.
    elim (told.told fact gained) [
      | inl before ↦ inl ((c.holding-before.ensures.facts fact).0 before)
      | inr said ↦ inr (subst (λ (n : Node). IsSaid then n fact) (sym c.node_of-node.ensures) said)
    ])
    c.requires.told
