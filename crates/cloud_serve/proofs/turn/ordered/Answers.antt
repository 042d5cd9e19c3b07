use Rattle.cloud_serve.proofs.Taking.{answers_ordered, breaks_ordered}
use Rattle.cloud_serve.proofs.turn.ordered.Goals as goal

pub returns-in-Ok : goal.returns-in-Ok
returns-in-Ok g c = record {
  takes = λ low last counted line less.
      answers_ordered _ _ line counted low last c.args.request.now c.args.order c.order-place.result.0 c.order-place.result.1 c.in-Ok.text less c.requires.shown c.order-place.ensures.ordered (rw c.wants_head.ensures at c.in-Ok.ensures);
}

pub returns-in-Err : goal.returns-in-Err
returns-in-Err g c = record {
  takes = λ low last counted line less. breaks_ordered _ _ line counted low c.args.request.now c.args.order c.order-place.result.0 c.order-place.result.1 less c.requires.shown c.order-place.ensures.ordered _ _;
}
