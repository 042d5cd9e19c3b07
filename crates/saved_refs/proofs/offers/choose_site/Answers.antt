use Rattle.std.proofs.Common.{inr, refl}
use Rattle.desk_base.proofs.Stopped.{starved}
use Rattle.saved_refs.specs.Commands.{ChooseSite}
use Rattle.saved_refs.proofs.offers.choose_site.Goals as goal

pub returns-in_err-needs : goal.returns-in_err-needs
returns-in_err-needs c =
    starved (ChooseSite c.args.state.now c.args.num c.args.tag c.args.item c.args.found c.args.by) c.from_residual-in_err-needs.result c.from_residual-in_err-needs.ensures.1
    (rw c.in-Some.is (_, inr (refl, c.in_ok-has_grant_room.ensures)))

pub returns : goal.returns
returns c = rw (c.draft_grant.ensures, c.no_role.ensures, c.in_ok-needs.ensures, c.in-Some.is) (inr (refl, c.in_ok-has_grant_room.ensures))
