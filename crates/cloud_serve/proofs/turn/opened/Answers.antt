use Rattle.std.proofs.Common.{sym, ◌∙◌}
use Rattle.cloud_serve.proofs.Taking.{answers_opened, breaks_opened, answers_stopped, breaks_stopped}
use Rattle.cloud_serve.proofs.turn.opened.Goals as goal

pub returns-in-Ok : goal.returns-in-Ok
returns-in-Ok g c = record {
  takes = λ low last counted line less.
      answers_opened _ _ _ low c.args.request.now c.args.first c.args.second c.order-place.result.0 c.order-place-then-was_done.result.0 c.order-place.result.1 c.order-place-then-was_done.result.1 less
      c.order-place.ensures.ordered c.order-place-then-was_done.ensures.ordered line counted last c.in-Ok.text c.requires.shown (sym c.was_done.ensures ∙ c.if-was_done.true) (rw c.wants_head.ensures at c.in-Ok.ensures);
}

pub returns-then-was_done : goal.returns-then-was_done
returns-then-was_done g c = record {
  takes = λ low last counted line less.
      breaks_opened _ _ _ low c.args.request.now c.args.first c.args.second c.order-place.result.0 c.order-place-then-was_done.result.0 c.order-place.result.1 c.order-place-then-was_done.result.1 less
      c.order-place.ensures.ordered c.order-place-then-was_done.ensures.ordered line counted c.requires.shown (sym c.was_done.ensures ∙ c.if-was_done.true) _ _;
}

pub returns-in-Ok-order_text : goal.returns-in-Ok-order_text
returns-in-Ok-order_text g c = record {
  takes = λ low last counted line less.
      answers_stopped _ _ line counted low last c.args.request.now c.args.first c.args.second c.order-place.result.0 c.order-place.result.1 c.in-Ok-order_text.text less c.requires.shown c.order-place.ensures.ordered
      (sym c.was_done.ensures ∙ c.if-was_done.false) (rw c.wants_head-else-was_done.ensures at c.in-Ok-order_text.ensures);
}

pub returns : goal.returns
returns g c = record {
  takes = λ low last counted line less.
      breaks_stopped _ _ line counted low c.args.request.now c.args.first c.args.second c.order-place.result.0 c.order-place.result.1 less c.requires.shown c.order-place.ensures.ordered _ _;
}
