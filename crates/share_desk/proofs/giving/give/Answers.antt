use Rattle.std.proofs.Common.{◌≡◌, ◌∙◌, ap, inl, inr, refl}
use Rattle.std.proofs.lemmas.List.Elements.{same_from_all_zip}
use Rattle.desk_base.specs.Steps.{Refuses}
use Rattle.desk_base.proofs.Stopped.{refused, starved}
use Rattle.share_desk.specs.Commands.{Gives, give_step}
use Rattle.share_desk.proofs.Words.{gift_limit, others_gift}
use Rattle.share_desk.proofs.giving.give.Goals as goal

pub returns-in_err-given_role : goal.returns-in_err-given_role
returns-in_err-given_role c =
    refused (Gives c.args.state.now c.args.num c.args.giver c.args.target c.args.assignment.now c.args.needs.now c.args.expires) c.from_residual.result c.in_err-given_role.field-0.0 c.from_residual.ensures.1
    (inl (_, refl, c.in_err-given_role.ensures))

pub returns-in_err-good_needs : goal.returns-in_err-good_needs
returns-in_err-good_needs c =
    refused (Gives c.args.state.now c.args.num c.args.giver c.args.target c.args.assignment.now c.args.needs.now c.args.expires) c.from_residual-in_err-good_needs.result c.in_err-good_needs.field-0.0 c.from_residual-in_err-good_needs.ensures.1
    (inr (c.in_ok-given_role.ensures, inl (_, refl, c.in_err-good_needs.ensures)))

pub returns-in_err-good_expiry : goal.returns-in_err-good_expiry
returns-in_err-good_expiry c =
    refused (Gives c.args.state.now c.args.num c.args.giver c.args.target c.args.assignment.now c.args.needs.now c.args.expires) c.from_residual-in_err-good_expiry.result c.in_err-good_expiry.field-0.0 c.from_residual-in_err-good_expiry.ensures.1
    (inr (c.in_ok-given_role.ensures, inr (c.in_ok-good_needs.ensures, inl (ap Refuses c.in_err-good_expiry.ensures.0, c.in_err-good_expiry.ensures.1))))

pub returns-in_err-has_grant_room : goal.returns-in_err-has_grant_room
returns-in_err-has_grant_room c =
    refused (Gives c.args.state.now c.args.num c.args.giver c.args.target c.args.assignment.now c.args.needs.now c.args.expires) c.from_residual-in_err-has_grant_room.result c.in_err-has_grant_room.field-0.0 c.from_residual-in_err-has_grant_room.ensures.1
    (inr (c.in_ok-given_role.ensures, inr (c.in_ok-good_needs.ensures, inr (c.in_ok-good_expiry.ensures, inl (_, refl, gift_limit c.args.state.now c.args.num c.args.giver c.args.assignment.now c.args.needs.now c.args.expires c.args.target ∙ c.in_err-has_grant_room.ensures)))))

pub returns-in_err-kept : goal.returns-in_err-kept
returns-in_err-kept c =
    starved (Gives c.args.state.now c.args.num c.args.giver c.args.target c.args.assignment.now c.args.needs.now c.args.expires) c.from_residual-in_err-kept.result c.from_residual-in_err-kept.ensures.1
    (give_step c.args.state.now.tables c.args.num c.args.giver c.args.target c.args.assignment.now c.args.needs.now c.args.expires, inr (c.in_ok-given_role.ensures, inr (c.in_ok-good_needs.ensures, inr (c.in_ok-good_expiry.ensures, inr (refl, gift_limit c.args.state.now c.args.num c.args.giver c.args.assignment.now c.args.needs.now c.args.expires c.args.target ∙ c.in_ok-has_grant_room.ensures)))))

pub returns-in-Bearer : goal.returns-in-Bearer
returns-in-Bearer c =
    let same : c.new-needs.result ≡ c.args.needs.now = c.new-needs.ensures ∙ same_from_all_zip _ c.args.needs.now c.in_ok-kept.kept.items c.in_ok-kept.ensures.ok (λ x y is. is) in
    rw (c.draft_grant.ensures, same, c.in-Bearer.is) (inr (c.in_ok-given_role.ensures, inr (c.in_ok-good_needs.ensures, inr (c.in_ok-good_expiry.ensures, inr (refl, c.in_ok-has_grant_room.ensures)))))

pub returns-in_default : goal.returns-in_default
returns-in_default c =
    let same : c.new-needs.result ≡ c.args.needs.now = c.new-needs.ensures ∙ same_from_all_zip _ c.args.needs.now c.in_ok-kept.kept.items c.in_ok-kept.ensures.ok (λ x y is. is) in
    rw (c.add_grant.ensures, same, others_gift c.args.state.now c.args.num c.args.giver c.args.assignment.now c.args.needs.now c.args.expires c.args.target c.in_default.not-Bearer)
    (inr (c.in_ok-given_role.ensures, inr (c.in_ok-good_needs.ensures, inr (c.in_ok-good_expiry.ensures, inr (refl, c.in_ok-has_grant_room.ensures)))))
