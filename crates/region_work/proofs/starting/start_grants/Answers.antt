use Rattle.std.proofs.Common.{◌∙◌, List, get_or, Contains, sym, subst, arith}
use Rattle.std.proofs.lemmas.List.{take_all}
use Rattle.std.proofs.lemmas.List.Sums.{sum_by_more}
use Rattle.std.proofs.lemmas.List.Elements.{Contains-get_or}
use Rattle.host_base.specs.declared.ids.GrantId.{GrantId}
use Rattle.share_graph.specs.declared.state.Tables.{Tables}
use Rattle.share_graph.specs.Nodes.{node_of}
use Rattle.share_graph.specs.Rows.{IsGrant}
use Rattle.region_work.specs.Owed.{owed}
use Rattle.region_work.specs.Starting.{bound_of}
use Rattle.region_work.proofs.Started.{owed_start, started_one}
use Rattle.region_work.proofs.starting.start_grants.Goals as goal

-- what a read past the end would give
abbrev blank : GrantId
blank = record { 0 = 0 }

pub try_grant-requires-clause-row : goal.try_grant-requires-clause-row
try_grant-requires-clause-row g c =
    let num : GrantId = get_or c.args.grants.now c.loop-num.num-index blank in
    let (grant, is, place) = c.requires.rows num (Contains-get_or c.args.grants.now c.loop-num.num-index blank c.loop-num-test.true) in (
      grant,
      subst (λ (t : Tables). IsGrant t num grant) (sym c.loop-num.invariant.0) is,
      (c.loop-num.invariant.3.finds.places (node_of num grant)).1 place,
    )

pub loop-num-preserved : goal.loop-num-preserved
loop-num-preserved g c =
    let t = g.V.Probe.tables c.args.probe.now in
    let same = c.loop-num.invariant.0 in (
      c.try_grant.ensures.same ∙ same,
      (let before = c.loop-num.invariant.1 in
          let one = c.try_grant.ensures.counted in
          let num : GrantId = get_or c.args.grants.now c.loop-num.num-index blank in
          let (grant, is, place) = c.requires.rows num (Contains-get_or c.args.grants.now c.loop-num.num-index blank c.loop-num-test.true) in
          let start = owed_start t c.args.table.now.entries num grant is in
          let owes = sum_by_more (owed t c.args.table.now.entries) c.args.grants.now c.loop-num.num-index blank c.loop-num-test.true in
          let bounds = sum_by_more (bound_of t) c.args.grants.now c.loop-num.num-index blank c.loop-num-test.true in
          omega arith),
      (let before = c.loop-num.invariant.2 in let one = c.try_grant.ensures.counted in omega arith),
      started_one t c.args.table.now.entries c.args.grants.now c.args.waiting.now c.loop-num.waiting c.try_grant.new.waiting c.loop-num.num-index blank
          c.loop-num-test.true c.loop-num.invariant.3 c.try_grant.ensures.finds (rw same at c.try_grant.ensures.sound) (rw same at c.try_grant.ensures.tried),
    )

pub returns-clause-tried : goal.returns-clause-tried
returns-clause-tried g c num grant fact has is f =
    let whole = take_all c.loop-num.num-index c.args.grants.now c.loop-num-test.false in
    c.loop-num.invariant.3.tested num (subst (λ (gs : List GrantId). Contains gs num) (sym whole) has) grant fact is f
