use Rattle.std.proofs.Common.{[], refl, arith, inl}
use Rattle.hub_core.specs.Sharing.{sharing_of}
use Rattle.hub_core.proofs.Stopping.{untouched, widened}
use Rattle.hub_core.proofs.Replies.{changed, no_start, unmoved}
use Rattle.hub_core.proofs.answering.answer_found.Goals as goal

pub answer_drawn-requires-clause-ready : goal.answer_drawn-requires-clause-ready
answer_drawn-requires-clause-ready g c = rw (← c.state.ensures.value, ← c.count-count.ensures.value) c.in-Draft.ensures.decided

pub answer_drawn-requires-clause-fits : goal.answer_drawn-requires-clause-fits
answer_drawn-requires-clause-fits g c = rw (← c.state.ensures.value) c.in-Draft.ensures.fits

pub add-added-requires-clause-fits : goal.add-added-requires-clause-fits
add-added-requires-clause-fits g c = rw (← c.state.ensures.value) c.in-Change.ensures.fits.0

pub returns-in-Refused-clause-ordered : goal.returns-in-Refused-clause-ordered
returns-in-Refused-clause-ordered g c = λ law.
    unmoved law c.args.found (sharing_of c.args.history.now c.args.held.now) c.args.order.now _
    (refl, rw (← c.state.ensures.value, ← c.count-count.ensures.value) c.in-Refused.ensures.decided) tt

pub returns-in-Same-clause-ordered : goal.returns-in-Same-clause-ordered
returns-in-Same-clause-ordered g c = λ law.
    unmoved law c.args.found (sharing_of c.args.history.now c.args.held.now) c.args.order.now _
    (c.requires.asks, inl (refl, refl, refl, rw (← c.state.ensures.value) c.in-Same.ensures.decided)) tt

pub returns-in-Change-clause-ordered : goal.returns-in-Change-clause-ordered
returns-in-Change-clause-ordered g c = λ law. rw c.replied.ensures
    (changed law c.args.found (sharing_of c.args.history.now c.args.held.now) c.args.order.now c.args.held.now.tell []
    (refl, omega arith, refl) c.requires.asks (sharing_of c.add-added.new.self c.add-added.new.held) c.in-Change.event
    c.in-Change.made c.add-added.result c.add-added.ensures.start c.add-added.ensures.entries c.app_of-app.result
    (rw (← c.state-in-Change.ensures.value) c.app_of-app.ensures) c.add-added.ensures.told
    (no_start [] c.in-Change.event c.in-Change.ensures.fits.1) c.add-added.ensures.stored (rw (← c.state.ensures.value, ← c.count-count.ensures.value) c.in-Change.ensures.decided))

pub returns-in-Memory-clause-ordered : goal.returns-in-Memory-clause-ordered
returns-in-Memory-clause-ordered g c = λ law.
    unmoved law c.args.found (sharing_of c.args.history.now c.args.held.now) c.args.order.now _ (refl, tt) tt

pub returns-in-Refused-clause-leaves : goal.returns-in-Refused-clause-leaves
returns-in-Refused-clause-leaves g c = λ law found.
    untouched g.H.Keeper.Keeper.may_leave c.args.history.now c.args.history.now c.args.held.now c.args.held.now refl refl refl _

pub returns-in-Same-clause-leaves : goal.returns-in-Same-clause-leaves
returns-in-Same-clause-leaves g c = λ law found.
    untouched g.H.Keeper.Keeper.may_leave c.args.history.now c.args.history.now c.args.held.now c.args.held.now refl refl refl _

pub returns-in-Memory-clause-leaves : goal.returns-in-Memory-clause-leaves
returns-in-Memory-clause-leaves g c = λ law found.
    untouched g.H.Keeper.Keeper.may_leave c.args.history.now c.args.history.now c.args.held.now c.args.held.now refl refl refl _

pub returns-in-Change-clause-leaves : goal.returns-in-Change-clause-leaves
returns-in-Change-clause-leaves g c = λ law found.
    widened g.H.Keeper.Keeper.may_leave c.args.history.now c.add-added.new.self c.args.held.now c.add-added.new.held _ _ (λ rows are. (
      c.args.found,
      [],
      c.in-Change.event,
      c.in-Change.made,
      found,
      rw (← c.state.ensures.value, ← c.count-count.ensures.value) c.in-Change.ensures.decided,
      are,
    )) c.add-added.ensures.leaves
