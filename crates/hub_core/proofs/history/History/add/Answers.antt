use Rattle.std.proofs.Common.{◌++◌, [], ◌∷◌, ◌∙◌, ap, append-nil, List, Ok, Err, refl, sym}
use Rattle.desk_base.specs.Terms.{Event}
use Rattle.hub_core.proofs.Adding.{keeps_added, room_for_commands, stored_told}
use Rattle.hub_core.proofs.Stopping.{told_outlasts, untouched}
use Rattle.hub_core.proofs.history.History.add.Goals as goal

pub invariant_of-self-in-Ok : goal.invariant_of-self-in-Ok
invariant_of-self-in-Ok g c =
    let old = c.self.inside in
    keeps_added old.start old.state old.entries.items old.solution c.self.invariant c.happen.new.state
    c.happen.new.entries.items c.happen.new.solution c.args.event
    (rw c.self.invariant.replayed (rw (← c.self.view_is) at c.requires.fits)) (room_for_commands c.happen.new.state.tables _ (rw (← c.self.view_is) at c.requires.room))
    c.happen.ensures.state
    (c.happen.ensures.entry ∙ ap (λ (xs : List Event). xs ++ c.args.event ∷ []) c.make_room.ensures.same) c.happen.ensures.solved

pub returns-in-Ok-clause-stored : goal.returns-in-Ok-clause-stored
returns-in-Ok-clause-stored g c =
    let old = c.self.inside in
    rw (← c.self.view_is) (stored_told c.args.held.now.tell.keeping c.tell.new.held.tell.keeping old.start old.state old.entries.items
    c.happen.new.entries.items c.args.event c.in_ok-staged.field-0.row (Ok c.in-Ok.field-0) c.self.invariant.replayed
    (c.happen.ensures.entry ∙ ap (λ (xs : List Event). xs ++ c.args.event ∷ []) c.make_room.ensures.same) c.self.invariant.formed
    (rw c.self.invariant.replayed (rw (← c.self.view_is) at c.requires.fits)) c.in_ok-staged.ensures.kept c.in-Ok.ensures.rows)

pub returns-in-Err-clause-stored : goal.returns-in-Err-clause-stored
returns-in-Err-clause-stored g c =
    let old = c.self.inside in
    rw (← c.self.view_is) (stored_told c.args.held.now.tell.keeping c.tell.new.held.tell.keeping old.start old.state old.entries.items
    c.make_room.new.entries.items c.args.event c.in_ok-staged.field-0.row (Err c.in-Err.fault) c.self.invariant.replayed
    (c.make_room.ensures.same ∙ sym (append-nil old.entries.items)) c.self.invariant.formed
    (rw c.self.invariant.replayed (rw (← c.self.view_is) at c.requires.fits)) c.in_ok-staged.ensures.kept c.in-Err.ensures.rows)

pub returns-in_err-make_room-clause-leaves : goal.returns-in_err-make_room-clause-leaves
returns-in_err-make_room-clause-leaves g c =
    let old = c.self.inside in
    rw (← c.self.view_is) (untouched g.H.Keeper.Keeper.may_leave (record { start = old.start; entries = old.entries.items })
    (record { start = old.start; entries = c.make_room.new.entries.items }) c.args.held.now c.args.held.now c.make_room.ensures.same refl refl _)

pub returns-in_err-staged-clause-leaves : goal.returns-in_err-staged-clause-leaves
returns-in_err-staged-clause-leaves g c =
    let old = c.self.inside in
    rw (← c.self.view_is) (untouched g.H.Keeper.Keeper.may_leave (record { start = old.start; entries = old.entries.items })
    (record { start = old.start; entries = c.make_room.new.entries.items }) c.args.held.now c.args.held.now c.make_room.ensures.same refl refl _)

pub returns-in-Ok-clause-leaves : goal.returns-in-Ok-clause-leaves
returns-in-Ok-clause-leaves g c =
    let old = c.self.inside in
    rw (← c.self.view_is) (told_outlasts g.H.Keeper.Keeper.may_leave (record { start = old.start; entries = old.entries.items })
    (record { start = old.start; entries = c.happen.new.entries.items }) c.args.held.now c.tell.new.held c.args.event
    c.in_ok-staged.field-0.row (Ok c.in-Ok.field-0) (rw (← c.self.invariant.replayed) c.in_ok-staged.ensures.row)
    (c.happen.ensures.entry ∙ ap (λ (xs : List Event). xs ++ c.args.event ∷ []) c.make_room.ensures.same)
    (rw (← c.self.invariant.replayed) c.self.invariant.formed) (rw (← c.self.view_is) at c.requires.fits)
    (rw (← c.self.invariant.replayed) c.in_ok-staged.ensures.kept) c.in-Ok.ensures.told.counts.clean c.in-Ok.ensures.rows c.in-Ok.ensures.leaves)

pub returns-in-Err-clause-leaves : goal.returns-in-Err-clause-leaves
returns-in-Err-clause-leaves g c =
    let old = c.self.inside in
    rw (← c.self.view_is) (told_outlasts g.H.Keeper.Keeper.may_leave (record { start = old.start; entries = old.entries.items })
    (record { start = old.start; entries = c.make_room.new.entries.items }) c.args.held.now c.tell.new.held c.args.event
    c.in_ok-staged.field-0.row (Err c.in-Err.fault) (rw (← c.self.invariant.replayed) c.in_ok-staged.ensures.row)
    (c.make_room.ensures.same ∙ sym (append-nil old.entries.items))
    (rw (← c.self.invariant.replayed) c.self.invariant.formed) (rw (← c.self.view_is) at c.requires.fits)
    (rw (← c.self.invariant.replayed) c.in_ok-staged.ensures.kept) c.in-Err.ensures.told.counts.clean c.in-Err.ensures.rows c.in-Err.ensures.leaves)
