use Rattle.std.proofs.Common.{refl, inl, inr}
use Rattle.host_base.specs.declared.key.Key.TheVariants as key
use Rattle.share_graph.specs.declared.grants.Grant.{Grant}
use Rattle.share_graph.proofs.Contained.{listed_row}
use Rattle.session_table.specs.Standing.{behind_grant}
use Rattle.session_table.specs.Verdict.{Stands, IsVerdict}
use Rattle.session_table.proofs.Follows.{if_ok_then}
use Rattle.session_table.proofs.Roots.{bearer_is_no_user}
use Rattle.session_table.proofs.judging.bearer_verdict.Goals as goal

pub returns-in_default : goal.returns-in_default
returns-in_default c = inl (refl, c.in_default.ensures)

pub grant_stands-requires-clause-row : goal.grant_stands-requires-clause-row
grant_stands-requires-clause-row c =
    listed_row (λ (row : Grant). row.num.0) c.args.state.now.tables.grants c.in-Some.grant.now c.requires.formed.numbered.grants c.in-Some.ensures.listed

pub grant_stands-requires-clause-own : goal.grant_stands-requires-clause-own
grant_stands-requires-clause-own c = bearer_is_no_user c.in-Some.grant.now.target c.in-Some.ensures.is.bearer

pub returns : goal.returns
returns c =
    let grant = c.in-Some.grant.now in
    if_ok_then (Stands c.args.state.now (behind_grant grant.num grant)) (IsVerdict c.args.state.now (key.Bearer c.args.digest.now)) c.grant_stands.result
    (λ v stands. inr (grant, c.in-Some.ensures, stands)) c.grant_stands.ensures
