use Rattle.std.proofs.Common.{Ok, subst, inr}
use Rattle.desk_base.specs.declared.outcome.Outcome.{Outcome}
use Rattle.desk_base.specs.Outcomes.{IsCarried}
use Rattle.desk_base.specs.Steps.{Plain}
use Rattle.desk_base.proofs.FitForms.{plain_fits, plain_starts_none}
use Rattle.desk_orders.specs.Commands.{draws}
use Rattle.desk_orders.specs.Orders.{RowBy, RowOf}
use Rattle.desk_orders.proofs.Drafts.{changes_of, draft_fits, when_full}
use Rattle.desk_orders.proofs.OfOrders.{fits_by}
use Rattle.desk_orders.proofs.deciding.decide.Goals as goal

pub returns-in-Err-has_room-clause-decided : goal.returns-in-Err-has_room-clause-decided
unfolding RowOf
returns-in-Err-has_room-clause-decided c =
    let full = when_full c.args.entries c.in-Err-has_room.refusal c.in-Err-has_room.ensures in
    rw (← c.order.view_is) (inr (full.0, full.1, changes_of (RowBy c.args.state.now c.args.found c.order.inside.caller c.order.inside.command) c.in-Ok.outcome c.in-Ok.ensures))

pub returns-in-Change-clause-fits : goal.returns-in-Change-clause-fits
returns-in-Change-clause-fits c =
    let Row = RowBy c.args.state.now c.args.found c.order.inside.caller c.order.inside.command in
    let fits = fits_by c.args.state.now c.requires.formed c.args.found c.order.inside.caller c.order.inside.command c.order.invariant in
    let change = fits.fits (Plain c.in-Change.event) c.in-Change.made (subst (λ (o : Outcome). IsCarried Row (Ok o)) c.in-Change.is c.in-Ok.ensures) in
    (plain_fits c.args.state.now (draws c.order.inside.command) c.in-Change.event change, plain_starts_none c.args.state.now (draws c.order.inside.command) c.in-Change.event change)

pub returns-in-Draft-clause-fits : goal.returns-in-Draft-clause-fits
returns-in-Draft-clause-fits c =
    let Row = RowBy c.args.state.now c.args.found c.order.inside.caller c.order.inside.command in
    let fits = fits_by c.args.state.now c.requires.formed c.args.found c.order.inside.caller c.order.inside.command c.order.invariant in
    (draft_fits c.args.state.now (draws c.order.inside.command) Row fits c.in-Draft.draft
    (subst (λ (o : Outcome). IsCarried Row (Ok o)) c.in-Draft.is c.in-Ok.ensures)).1

pub returns-in-Draft-clause-draws : goal.returns-in-Draft-clause-draws
returns-in-Draft-clause-draws c = λ any.
    let Row = RowBy c.args.state.now c.args.found c.order.inside.caller c.order.inside.command in
    let fits = fits_by c.args.state.now c.requires.formed c.args.found c.order.inside.caller c.order.inside.command c.order.invariant in
    rw (← c.order.view_is) (draft_fits c.args.state.now (draws c.order.inside.command) Row fits c.in-Draft.draft
    (subst (λ (o : Outcome). IsCarried Row (Ok o)) c.in-Draft.is c.in-Ok.ensures)).0
