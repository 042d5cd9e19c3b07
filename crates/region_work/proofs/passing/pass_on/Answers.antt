use Rattle.std.proofs.Common.{◌-◌, ◌∙◌, sym, subst, get_or, arith}
use Rattle.std.proofs.lemmas.List.Sums.{sum_by_more}
use Rattle.std.proofs.lemmas.List.Elements.{Contains-get_or}
use Rattle.host_base.specs.declared.ids.GrantId.{GrantId}
use Rattle.share_graph.specs.declared.state.Tables.{Tables}
use Rattle.share_graph.specs.Nodes.{node_of}
use Rattle.share_graph.specs.Rows.{IsGrant}
use Rattle.region_work.specs.Owed.{owed}
use Rattle.region_work.proofs.PassedOn.{passed_one}
use Rattle.region_work.proofs.passing.pass_on.Goals as goal

-- what a read past the end would give
abbrev blank : GrantId
blank = record { 0 = 0 }

pub pass_by-requires-clause-row : goal.pass_by-requires-clause-row
pass_by-requires-clause-row g c =
    let num : GrantId = get_or c.args.fed.now c.loop-num.num-index blank in
    let (grant, is, place) = c.requires.rows num (Contains-get_or c.args.fed.now c.loop-num.num-index blank c.loop-num-test.true) in (
      grant,
      subst (λ (t : Tables). IsGrant t num grant) (sym c.loop-num.invariant.0) is,
      (c.loop-num.invariant.2.finds.places (node_of num grant)).1 place,
    )

pub loop-num-preserved : goal.loop-num-preserved
loop-num-preserved g c =
    let t = g.V.Probe.tables c.args.probe.now in
    let same = c.loop-num.invariant.0 in (
      c.pass_by.ensures.same ∙ same,
      λ start moves.
          let before = c.loop-num.invariant.1 start moves in
          let one = (rw same at c.pass_by.ensures.counted) start moves in
          let split = sum_by_more (λ (n : GrantId). owed t start n - owed t c.args.table.now.entries n) c.args.fed.now c.loop-num.num-index blank c.loop-num-test.true in
          omega arith,
      passed_one t c.args.table.now.entries c.args.gain.now c.args.waiting.now c.loop-num.waiting c.pass_by.new.waiting c.args.fed.now c.loop-num.num-index blank
          c.loop-num-test.true c.loop-num.invariant.2 c.pass_by.ensures.finds (rw same at c.pass_by.ensures.sound) (rw same at c.pass_by.ensures.closed),
    )
