use Rattle.std.proofs.Common.{◌∙◌, [], ◌∷◌, ap, refl, rules}
use Rattle.hub_core.specs.Book.{Backing}
use Rattle.desk_base.specs.Outcomes.{with_digest}
use Rattle.hub_core.specs.Sharing.{sharing_of}
use Rattle.hub_core.proofs.Stopping.{drawn_before, untouched, widened}
use Rattle.hub_core.proofs.Replies.{changed, clashed, completed, drafted, unchanged}
use Rattle.hub_core.proofs.answering.answer_drawn.Goals as goal

pub app_of-app-requires : goal.app_of-app-requires
app_of-app-requires g c =
    let made = c.in-Ok-complete.ensures in
    rw (c.state-in-Ok-complete.ensures.value, made.0) (c.requires.fits c.in-Ok-text_of.digest (rw (← c.state.ensures.value) made.2))

pub add-added-requires-clause-fits : goal.add-added-requires-clause-fits
add-added-requires-clause-fits g c =
    let made = c.in-Ok-complete.ensures in
    rw made.0 (c.requires.fits c.in-Ok-text_of.digest (rw (← c.state.ensures.value) made.2))

pub returns-in_default-clause-ordered : goal.returns-in_default-clause-ordered
returns-in_default-clause-ordered g c = λ law.
    unchanged law c.args.found (sharing_of c.args.history.now c.args.held.now) c.args.order.now c.draw.new.held.tell []
    (c.draw.ensures.others, c.draw.ensures.counts, search rules) _
    (refl, refl, (with_digest c.args.draft.event, (c.args.draft.made, c.requires.ready))) (search rules)

pub returns-in_default-text_of-clause-ordered : goal.returns-in_default-text_of-clause-ordered
returns-in_default-text_of-clause-ordered g c = λ law.
    unchanged law c.args.found (sharing_of c.args.history.now c.args.held.now) c.args.order.now c.draw.new.held.tell
    (c.in-Ok.secret ∷ []) (c.draw.ensures.others, c.draw.ensures.counts, (_, c.in-Ok.ensures.drawn, refl)) _
    (refl, (with_digest c.args.draft.event, (c.args.draft.made, c.requires.ready))) tt

pub returns-in-Err-clause-ordered : goal.returns-in-Err-clause-ordered
returns-in-Err-clause-ordered g c = λ law.
    unchanged law c.args.found (sharing_of c.args.history.now c.args.held.now) c.args.order.now c.draw.new.held.tell
    (c.in-Ok.secret ∷ []) (c.draw.ensures.others, c.draw.ensures.counts, (_, c.in-Ok.ensures.drawn, refl)) _ (
      refl,
      clashed _ _ c.args.found c.args.order.now c.in-Ok.secret c.args.draft c.in-Ok-text_of.digest c.in-Err.refusal
          c.in-Ok-text_of.ensures.1 c.requires.ready (rw (← c.state.ensures.value) c.in-Err.ensures),
    ) tt

pub returns-in-Ok-complete-clause-ordered : goal.returns-in-Ok-complete-clause-ordered
returns-in-Ok-complete-clause-ordered g c = rw (c.replied.ensures, c.shown_text.ensures, c.in-Ok-text_of.ensures.0) (λ law.
    changed law c.args.found (sharing_of c.args.history.now c.args.held.now) c.args.order.now c.draw.new.held.tell
    (c.in-Ok.secret ∷ []) (c.draw.ensures.others, c.draw.ensures.counts, (_, c.in-Ok.ensures.drawn, refl)) c.requires.asks
    (sharing_of c.add-added.new.self c.add-added.new.held) c.in-Ok-complete.event c.in-Ok-complete.made c.add-added.result
    c.add-added.ensures.start c.add-added.ensures.entries c.app_of-app.result
    (rw (← c.state-in-Ok-complete.ensures.value) c.app_of-app.ensures)
    (rw (← (c.as_slice.ensures.value ∙ c.in-Ok-text_of.ensures.0)) c.add-added.ensures.told)
    (rw c.in-Ok-complete.ensures.0 (drafted _ c.args.draft.event c.in-Ok-text_of.digest c.in-Ok-text_of.ensures.1)) c.add-added.ensures.stored
    (completed _ _ c.args.found c.args.order.now c.in-Ok.secret c.args.draft c.in-Ok-text_of.digest c.in-Ok-complete.event
    c.in-Ok-complete.made c.in-Ok-text_of.ensures.1 c.requires.ready (rw (← c.state.ensures.value) c.in-Ok-complete.ensures)))

pub returns-in_default-clause-leaves : goal.returns-in_default-clause-leaves
returns-in_default-clause-leaves g c = λ law found.
    untouched g.H.Keeper.Keeper.may_leave c.args.history.now c.args.history.now c.args.held.now c.draw.new.held refl c.draw.ensures.keeper
    (ap (λ (holds : Backing). holds.keeping) c.draw.ensures.others) _

pub returns-in_default-text_of-clause-leaves : goal.returns-in_default-text_of-clause-leaves
returns-in_default-text_of-clause-leaves g c = λ law found.
    untouched g.H.Keeper.Keeper.may_leave c.args.history.now c.args.history.now c.args.held.now c.draw.new.held refl c.draw.ensures.keeper
    (ap (λ (holds : Backing). holds.keeping) c.draw.ensures.others) _

pub returns-in-Err-clause-leaves : goal.returns-in-Err-clause-leaves
returns-in-Err-clause-leaves g c = λ law found.
    untouched g.H.Keeper.Keeper.may_leave c.args.history.now c.args.history.now c.args.held.now c.draw.new.held refl c.draw.ensures.keeper
    (ap (λ (holds : Backing). holds.keeping) c.draw.ensures.others) _

pub returns-in-Ok-complete-clause-leaves : goal.returns-in-Ok-complete-clause-leaves
returns-in-Ok-complete-clause-leaves g c = λ law found.
    let past = c.args.history.now in
    drawn_before g.H.Keeper.Keeper.may_leave past c.add-added.new.self c.args.held.now c.add-added.new.held c.draw.new.held
    c.draw.ensures.keeper (ap (λ (holds : Backing). holds.keeping) c.draw.ensures.others) _
    (widened g.H.Keeper.Keeper.may_leave past c.add-added.new.self c.draw.new.held c.add-added.new.held _ _ (λ rows are. (
      c.args.found,
      c.in-Ok.secret ∷ [],
      c.in-Ok-complete.event,
      c.in-Ok-complete.made,
      found,
      completed _ _ c.args.found c.args.order.now c.in-Ok.secret c.args.draft c.in-Ok-text_of.digest c.in-Ok-complete.event
          c.in-Ok-complete.made c.in-Ok-text_of.ensures.1 c.requires.ready (rw (← c.state.ensures.value) c.in-Ok-complete.ensures),
      are,
    )) c.add-added.ensures.leaves)
