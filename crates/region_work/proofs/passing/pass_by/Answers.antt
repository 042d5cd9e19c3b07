use Rattle.std.proofs.Common.{◌∙◌, sym, inl, inr, arith}
use Rattle.std.proofs.lemmas.Bool.{false≢true}
use Rattle.share_graph.specs.Nodes.{node_of}
use Rattle.region_work.proofs.Moving.{follows_back}
use Rattle.region_work.proofs.Owing.{owed_source, owed_need}
use Rattle.region_work.proofs.passing.pass_by.Goals as goal

pub returns-then-is_reached-clause-counted : goal.returns-then-is_reached-clause-counted
returns-then-is_reached-clause-counted g c start moves =
    let t = g.V.Probe.tables c.args.probe.now in
    let (grant, is, place) = c.requires.row in
    let counted = c.try_grant.ensures.counted in
    elim ((c.is_reached.ensures grant is).0 c.if-is_reached.true) [
      | inl from ↦ let less = owed_source c.args.gain.now start c.args.table.now.entries moves t c.args.num grant is from in omega arith
      | inr met ↦ let less = owed_need c.args.gain.now start c.args.table.now.entries moves t c.args.num grant met.0 is met.1 met.2 in omega arith
    ]

pub returns-then-is_reached-clause-closed : goal.returns-then-is_reached-clause-closed
returns-then-is_reached-clause-closed g c start moves grant fact is f = inr (c.try_grant.ensures.tried grant fact is f)

pub returns-else-is_reached-clause-closed : goal.returns-else-is_reached-clause-closed
returns-else-is_reached-clause-closed g c start moves grant fact is f =
    let t = g.V.Probe.tables c.args.probe.now in
    elim (follows_back t c.args.gain.now start c.args.table.now.entries moves c.args.num grant
    (λ q has becomes. false≢true (sym c.if-is_reached.false ∙ (c.is_reached.ensures grant is).1 (inr (q, has, becomes))))
    (node_of c.args.num grant) fact f) [
      | inl before ↦ inl before
      | inr since ↦ absurd (false≢true (sym c.if-is_reached.false ∙ (c.is_reached.ensures grant is).1 (inl since.0)))
    ]
