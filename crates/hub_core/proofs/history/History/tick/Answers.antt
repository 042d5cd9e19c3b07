use Rattle.std.proofs.Common.{◌≡◌, ◌∙◌, ◌++◌, ◌∷◌, [], List, ap, sym, subst}
use Rattle.std.proofs.lemmas.Bool.{false≢true}
use Rattle.desk_base.specs.Terms.{Event, State}
use Rattle.share_graph.specs.declared.event.Event.TheVariants as event
use Rattle.hub_core.specs.Ticking.{EndsSome}
use Rattle.hub_core.proofs.Adding.{keeps_added}
use Rattle.hub_core.proofs.Ticking.{room_for_ticks, tick_fits}
use Rattle.hub_core.proofs.history.History.tick.Goals as goal

pub returns-then-not-branch-clause-ticks : goal.returns-then-not-branch-clause-ticks
returns-then-not-branch-clause-ticks c ends =
    let here : EndsSome c.self.inside.state.tables c.args.moment = rw (← c.self.view_is, ← c.self.invariant.replayed) at ends in
    false≢true (sym c.if-not-branch.true ∙ c.in_ok-ends_some.ensures.1 here)

pub make_ready-requires-clause-fits : goal.make_ready-requires-clause-fits
make_ready-requires-clause-fits c =
    tick_fits c.self.inside.state c.self.invariant.formed c.args.moment (c.in_ok-ends_some.ensures.0 c.if-not-branch.false)

pub invariant_of-self-2 : goal.invariant_of-self-2
invariant_of-self-2 c =
    let old = c.self.inside in
    let ends = c.in_ok-ends_some.ensures.0 c.if-not-branch.false in
    keeps_added old.start old.state old.entries.items old.solution c.self.invariant c.happen.new.state c.happen.new.entries.items
    c.happen.new.solution (event.Ticked c.args.moment) (tick_fits old.state c.self.invariant.formed c.args.moment ends)
    (rw c.happen.ensures.state (room_for_ticks old.state c.args.moment _ c.self.invariant.few ends))
    c.happen.ensures.state
    (c.happen.ensures.entry ∙ ap (λ (xs : List Event). xs ++ event.Ticked c.args.moment ∷ []) c.make_room.ensures.same) c.happen.ensures.solved

pub returns-clause-ticks : goal.returns-clause-ticks
returns-clause-ticks c =
    let ends = c.in_ok-ends_some.ensures.0 c.if-not-branch.false in
    rw (← c.self.view_is, ← c.self.invariant.replayed) ends
