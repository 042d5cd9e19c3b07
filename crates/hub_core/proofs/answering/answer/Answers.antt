use Rattle.std.proofs.Common.{None, refl}
use Rattle.hub_core.specs.Sharing.{sharing_of, state_of}
use Rattle.hub_core.proofs.Replies.{found_for, unmoved}
use Rattle.hub_core.proofs.Stopping.{untouched}
use Rattle.hub_core.proofs.answering.answer.Goals as goal

pub returns-in_default-clause-ordered : goal.returns-in_default-clause-ordered
returns-in_default-clause-ordered g c =
    unmoved g.C.Law.SiteLaw.law None (sharing_of c.args.history.now c.args.held.now) c.args.order.now _ (refl, tt) tt
    (rw (← c.state.ensures.value) c.state.ensures.formed) tt

pub returns-clause-ordered : goal.returns-clause-ordered
returns-clause-ordered g c =
    c.answer_found.ensures.ordered g.C.Law.SiteLaw.law (rw (← c.state.ensures.value) c.state.ensures.formed)
    (found_for g.C.Law.SiteLaw.law (state_of c.args.history.now) c.args.order.now c.answer_found.result c.in-Ok.found (rw (← c.state.ensures.value) c.in-Ok.ensures))

pub returns-in_default-clause-leaves : goal.returns-in_default-clause-leaves
returns-in_default-clause-leaves g c =
    untouched g.H.Keeper.Keeper.may_leave c.args.history.now c.args.history.now c.args.held.now c.args.held.now refl refl refl _

pub returns-clause-leaves : goal.returns-clause-leaves
returns-clause-leaves g c =
    c.answer_found.ensures.leaves g.C.Law.SiteLaw.law (rw (← c.state.ensures.value) c.in-Ok.ensures)
