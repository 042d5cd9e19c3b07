use Rattle.std.proofs.Common.{refl, subst}
use Rattle.host_base.specs.declared.ids.GrantId.{GrantId}
use Rattle.desk_base.specs.Made.{nothing_made}
use Rattle.desk_base.specs.Steps.{Keeps, Refuses, Step}
use Rattle.desk_base.specs.Terms.{answers}
use Rattle.share_graph.specs.declared.grants.Grant.{Grant}
use Rattle.desk_base.proofs.Words.{on_calls, on_refused}
use Rattle.share_graph.proofs.Coherence.{coherent}
use Rattle.collections.specs.Members.{IsPlan}
use Rattle.collections.proofs.Alike.{grant_is}
use Rattle.collections.proofs.Linked.{ByLink, link_listed, link_refused}
use Rattle.collections.proofs.MemberLaw.{member_law}
use Rattle.collections.proofs.OneRow.{missing_one}
use Rattle.collections.proofs.Planned.{numbered}
use Rattle.collections.proofs.planning.missing.Goals as goal

pub returns-in-Err-clause-law : goal.returns-in-Err-clause-law
returns-in-Err-clause-law c = member_law c.args.state.now c.requires.formed

pub returns-in-Err-link_of-clause-law : goal.returns-in-Err-link_of-clause-law
returns-in-Err-link_of-clause-law c = member_law c.args.state.now c.requires.formed

pub returns-in_err-members-clause-law : goal.returns-in_err-members-clause-law
returns-in_err-members-clause-law c = member_law c.args.state.now c.requires.formed

pub returns-in_err-plan-clause-law : goal.returns-in_err-plan-clause-law
returns-in_err-plan-clause-law c = member_law c.args.state.now c.requires.formed

pub returns-clause-law : goal.returns-clause-law
returns-clause-law c = member_law c.args.state.now c.requires.formed

pub members_of-requires-clause-coherent : goal.members_of-requires-clause-coherent
members_of-requires-clause-coherent c = coherent c.args.state.now.tables c.requires.formed.tables

-- what the row comes to, once its link is known
abbrev Plain : Grant → Step → Type 0
Plain link = answers (Keeps nothing_made)

pub returns-in-Err-clause-row : goal.returns-in-Err-clause-row
returns-in-Err-clause-row c = on_refused c.args.state.now c.args.caller.now c.args.collection (ByLink c.args.state.now c.args.link Plain) c.in-Err.refusal c.in-Err.ensures

pub returns-in-Err-link_of-clause-row : goal.returns-in-Err-link_of-clause-row
returns-in-Err-link_of-clause-row c =
    let s = c.args.state.now in
    let account = c.in-Ok.account.now in
    let refusal = c.in-Err-link_of.refusal in
    on_calls s c.args.caller.now c.args.collection (ByLink s c.args.link Plain) account (Refuses refusal) c.in-Ok.ensures (link_refused s c.args.link Plain account refusal c.in-Err-link_of.ensures)

pub returns-clause-row : goal.returns-clause-row
returns-clause-row c =
    let s = c.args.state.now in
    let g = c.args.link in
    let account = c.in-Ok.account.now in
    let link = c.in-Ok-link_of.link.now in
    let is = c.in-Ok-link_of.ensures in
    let num = grant_is link.num g (numbered (λ (row : Grant). row.num.0) s.tables.grants g.0 link c.requires.formed.numbered.grants is.is_row) in (
      on_calls s c.args.caller.now c.args.collection (ByLink s g Plain) account (Keeps nothing_made) c.in-Ok.ensures (link_listed s g Plain account link (Keeps nothing_made) is refl),
      (account, c.in-Ok.ensures.caller, (link, is.is_row, subst (λ (h : GrantId). IsPlan s.tables c.args.collection h link account.num c.in_ok-plan.plan) num c.in_ok-plan.ensures)),
    )

pub returns-in-Err-clause-one : goal.returns-in-Err-clause-one
returns-in-Err-clause-one c = missing_one c.args.state.now c.requires.formed c.args.caller.now c.args.collection c.args.link

pub returns-in-Err-link_of-clause-one : goal.returns-in-Err-link_of-clause-one
returns-in-Err-link_of-clause-one c = missing_one c.args.state.now c.requires.formed c.args.caller.now c.args.collection c.args.link

pub returns-in_err-members-clause-one : goal.returns-in_err-members-clause-one
returns-in_err-members-clause-one c = missing_one c.args.state.now c.requires.formed c.args.caller.now c.args.collection c.args.link

pub returns-in_err-plan-clause-one : goal.returns-in_err-plan-clause-one
returns-in_err-plan-clause-one c = missing_one c.args.state.now c.requires.formed c.args.caller.now c.args.collection c.args.link

pub returns-clause-one : goal.returns-clause-one
returns-clause-one c = missing_one c.args.state.now c.requires.formed c.args.caller.now c.args.collection c.args.link
