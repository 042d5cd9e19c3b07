use Rattle.std.proofs.Common.{inl, inr, refl, rules}
use Rattle.share_graph.specs.declared.facts.Node.TheVariants as node
use Rattle.desk_base.specs.Terms.{Grant}
use Rattle.share_graph.proofs.Contained.{listed_row}
use Rattle.desk_base.specs.Outcomes.{step_of}
use Rattle.desk_base.proofs.Stopped.{stopped}
use Rattle.desk_base.proofs.Words.{bearer_is_no_user, lacking}
use Rattle.share_desk.specs.Commands.{Redeem}
use Rattle.share_desk.proofs.redeeming.redeem.Goals as goal

pub returns-then-ne-clause-row : goal.returns-then-ne-clause-row
returns-then-ne-clause-row c = inr (_, c.in_ok-account.ensures.one, inr (c.in_ok-account.ensures.enabled, inr (_, c.in-Some.ensures, inl (refl, search rules))))

pub has_entry-requires-clause-there : goal.has_entry-requires-clause-there
has_entry-requires-clause-there c =
    let link = c.in-Some.link.now in
    record {
      grant = link;
      is_row = listed_row (λ (row : Grant). row.num.0) c.args.state.now.tables.grants link c.requires.formed.numbered.grants c.in-Some.ensures.listed;
      no_user = bearer_is_no_user link.target c.in-Some.ensures.is.bearer;
    }

pub returns-in_err-has_entry-clause-row : goal.returns-in_err-has_entry-clause-row
returns-in_err-has_entry-clause-row c =
    stopped (Redeem c.args.state.now c.args.caller.now c.args.token.now) step_of c.from_residual-in_err-has_entry.result c.in_err-has_entry.field-0.0 c.from_residual-in_err-has_entry.ensures.1
    (inr (_, c.in_ok-account.ensures.one, inr (c.in_ok-account.ensures.enabled, inr (_, c.in-Some.ensures, inr (search rules, inl (lacking c.args.state.now.tables (node.Grant c.in-Some.link.now.num) c.in_err-has_entry.field-0.0 c.in_err-has_entry.ensures))))))

pub returns-in-Some-share_from-clause-row : goal.returns-in-Some-share_from-clause-row
returns-in-Some-share_from-clause-row c = rw c.shown_grant.ensures (inr (_, c.in_ok-account.ensures.one, inr (c.in_ok-account.ensures.enabled, inr (_, c.in-Some.ensures, inr (search rules, inr (c.in_ok-has_entry.ensures, inl (_, refl, c.in-Some-share_from.ensures)))))))

pub returns-in_err-has_grant_room-clause-row : goal.returns-in_err-has_grant_room-clause-row
returns-in_err-has_grant_room-clause-row c =
    stopped (Redeem c.args.state.now c.args.caller.now c.args.token.now) step_of c.from_residual-in_err-has_grant_room.result c.in_err-has_grant_room.field-0.0 c.from_residual-in_err-has_grant_room.ensures.1
    (inr (_, c.in_ok-account.ensures.one, inr (c.in_ok-account.ensures.enabled, inr (_, c.in-Some.ensures, inr (search rules, inr (c.in_ok-has_entry.ensures, inr (c.in_default-share_from.ensures, inl (_, refl, c.in_err-has_grant_room.ensures))))))))

pub returns-clause-row : goal.returns-clause-row
returns-clause-row c =
    rw (c.add_grant.ensures, c.all_access.ensures, c.empty-needs.ensures)
    (inr (_, c.in_ok-account.ensures.one, inr (c.in_ok-account.ensures.enabled, inr (_, c.in-Some.ensures, inr (search rules, inr (c.in_ok-has_entry.ensures, inr (c.in_default-share_from.ensures, inr (refl, c.in_ok-has_grant_room.ensures))))))))
