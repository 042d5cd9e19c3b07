use Rattle.std.proofs.Common.{◌≡◌, List, None, ap, inl, inr, refl, subst, sym, ◌∙◌}
use Rattle.host_base.specs.declared.ids.GrantId.{GrantId}
use Rattle.desk_base.specs.Made.{nothing_made}
use Rattle.desk_base.specs.Outcomes.{IsCarried}
use Rattle.desk_base.specs.Steps.{Keeps, Refuses, Step}
use Rattle.desk_base.proofs.Stopped.{carried_more, refused}
use Rattle.desk_base.proofs.Words.{on_calls, on_refused}
use Rattle.share_desk.specs.Commands.{Share}
use Rattle.share_graph.specs.declared.grants.Grant.{Grant}
use Rattle.share_graph.specs.declared.grants.Need.{Need}
use Rattle.least_access.proofs.Lacking.{not_so}
use Rattle.collections.specs.Commands.{Collect}
use Rattle.collections.specs.Members.{IsOwed, member_needs}
use Rattle.collections.proofs.Alike.{grant_is}
use Rattle.collections.proofs.FitRow.{collect_fits}
use Rattle.collections.proofs.Linked.{ByLink, Gives, link_listed, link_refused}
use Rattle.collections.proofs.OneRow.{collect_one}
use Rattle.collections.proofs.Planned.{numbered}
use Rattle.collections.proofs.collecting.collect.Goals as goal

pub returns-in_err-curator-clause-row : goal.returns-in_err-curator-clause-row
returns-in_err-curator-clause-row c =
    let s = c.args.state.now in
    let who = c.args.caller.now in
    refused (Collect s who c.args.collection c.args.link c.args.member) c.from_residual.result c.in_err-curator.field-0.0 c.from_residual.ensures.1
    (on_refused s who c.args.collection (λ account. ByLink s c.args.link (Gives s who c.args.collection c.args.link c.args.member account) account) c.in_err-curator.field-0.0 c.in_err-curator.ensures)

pub returns-in_err-link-clause-row : goal.returns-in_err-link-clause-row
returns-in_err-link-clause-row c =
    let s = c.args.state.now in
    let who = c.args.caller.now in
    let account = c.in_ok-curator.curator.now in
    let refusal = c.in_err-link.field-0.0 in
    refused (Collect s who c.args.collection c.args.link c.args.member) c.from_residual-in_err-link.result refusal c.from_residual-in_err-link.ensures.1
    (on_calls s who c.args.collection (λ by. ByLink s c.args.link (Gives s who c.args.collection c.args.link c.args.member by) by) account (Refuses refusal) c.in_ok-curator.ensures
    (link_refused s c.args.link (Gives s who c.args.collection c.args.link c.args.member account) account refusal c.in_err-link.ensures))

pub returns-in_err-known_account-clause-row : goal.returns-in_err-known_account-clause-row
returns-in_err-known_account-clause-row c =
    let s = c.args.state.now in
    let who = c.args.caller.now in
    let account = c.in_ok-curator.curator.now in
    let refusal = c.in_err-known_account.field-0.0 in
    refused (Collect s who c.args.collection c.args.link c.args.member) c.from_residual-in_err-known_account.result refusal c.from_residual-in_err-known_account.ensures.1
    (on_calls s who c.args.collection (λ by. ByLink s c.args.link (Gives s who c.args.collection c.args.link c.args.member by) by) account (Refuses refusal) c.in_ok-curator.ensures
    (link_listed s c.args.link (Gives s who c.args.collection c.args.link c.args.member account) account c.in_ok-link.link.now (Refuses refusal) c.in_ok-link.ensures
    (inl (ap Refuses c.in_err-known_account.ensures.0, c.in_err-known_account.ensures.1))))

pub returns-then-not-is_owed-clause-row : goal.returns-then-not-is_owed-clause-row
returns-then-not-is_owed-clause-row c =
    let s = c.args.state.now in
    let who = c.args.caller.now in
    let g = c.args.link in
    let account = c.in_ok-curator.curator.now in
    let link = c.in_ok-link.link.now in
    let num = grant_is link.num g (numbered (λ (row : Grant). row.num.0) s.tables.grants g.0 link c.requires.formed.numbered.grants c.in_ok-link.ensures.is_row) in
    let none = subst (λ (h : GrantId). IsOwed s.tables c.args.collection h link account.num c.args.member → ⊥) num
    (not_so (IsOwed s.tables c.args.collection link.num link account.num c.args.member) c.is_owed.result c.is_owed.ensures c.if-not-is_owed.true) in
    on_calls s who c.args.collection (λ by. ByLink s g (Gives s who c.args.collection g c.args.member by) by) account (Keeps nothing_made) c.in_ok-curator.ensures
    (link_listed s g (Gives s who c.args.collection g c.args.member account) account link (Keeps nothing_made) c.in_ok-link.ensures
    (inr (_, c.in_ok-known_account.ensures, inl (refl, none))))

pub returns-clause-row : goal.returns-clause-row
returns-clause-row c =
    let s = c.args.state.now in
    let who = c.args.caller.now in
    let g = c.args.link in
    let account = c.in_ok-curator.curator.now in
    let link = c.in_ok-link.link.now in
    let num = grant_is link.num g (numbered (λ (row : Grant). row.num.0) s.tables.grants g.0 link c.requires.formed.numbered.grants c.in_ok-link.ensures.is_row) in
    let owed = subst (λ (h : GrantId). IsOwed s.tables c.args.collection h link account.num c.args.member) num (c.is_owed.ensures.0 c.if-not-is_owed.false) in
    let needs = c.as_slice.ensures ∙ c.member_needs-needs.ensures ∙ ap (λ (h : GrantId). member_needs c.args.collection h c.args.member) num in
    carried_more (Share s who link.grain c.args.member link.assignment (member_needs c.args.collection g c.args.member) None) (Collect s who c.args.collection g c.args.member)
    (λ step is.
    on_calls s who c.args.collection (λ by. ByLink s g (Gives s who c.args.collection g c.args.member by) by) account step c.in_ok-curator.ensures
    (link_listed s g (Gives s who c.args.collection g c.args.member account) account link step c.in_ok-link.ensures
    (inr (_, c.in_ok-known_account.ensures, inr (owed, is)))))
    c.share.result (subst (λ (wanted : List Need). IsCarried (Share s who link.grain c.args.member link.assignment wanted None) c.share.result) needs c.share.ensures.row)

pub returns-in_err-curator-clause-one : goal.returns-in_err-curator-clause-one
returns-in_err-curator-clause-one c = collect_one c.args.state.now c.requires.formed c.args.caller.now c.args.collection c.args.link c.args.member

pub returns-in_err-curator-clause-fits : goal.returns-in_err-curator-clause-fits
returns-in_err-curator-clause-fits c = collect_fits c.args.state.now c.requires.formed c.args.caller.now c.args.collection c.args.link c.args.member

pub returns-in_err-link-clause-one : goal.returns-in_err-link-clause-one
returns-in_err-link-clause-one c = collect_one c.args.state.now c.requires.formed c.args.caller.now c.args.collection c.args.link c.args.member

pub returns-in_err-link-clause-fits : goal.returns-in_err-link-clause-fits
returns-in_err-link-clause-fits c = collect_fits c.args.state.now c.requires.formed c.args.caller.now c.args.collection c.args.link c.args.member

pub returns-in_err-known_account-clause-one : goal.returns-in_err-known_account-clause-one
returns-in_err-known_account-clause-one c = collect_one c.args.state.now c.requires.formed c.args.caller.now c.args.collection c.args.link c.args.member

pub returns-then-not-is_owed-clause-one : goal.returns-then-not-is_owed-clause-one
returns-then-not-is_owed-clause-one c = collect_one c.args.state.now c.requires.formed c.args.caller.now c.args.collection c.args.link c.args.member

pub returns-then-not-is_owed-clause-fits : goal.returns-then-not-is_owed-clause-fits
returns-then-not-is_owed-clause-fits c = collect_fits c.args.state.now c.requires.formed c.args.caller.now c.args.collection c.args.link c.args.member

pub returns-clause-one : goal.returns-clause-one
returns-clause-one c = collect_one c.args.state.now c.requires.formed c.args.caller.now c.args.collection c.args.link c.args.member

pub returns-clause-fits : goal.returns-clause-fits
returns-clause-fits c = collect_fits c.args.state.now c.requires.formed c.args.caller.now c.args.collection c.args.link c.args.member
