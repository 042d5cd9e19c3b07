use Rattle.cloud_serve.proofs.Taking.{answers_collected, breaks_collected}
use Rattle.cloud_serve.proofs.turn.collected.Goals as goal

pub returns-in-Ok : goal.returns-in-Ok
returns-in-Ok g c = record {
  takes = λ low last counted line less.
      answers_collected _ _ low c.args.request.now c.args.asks.now c.collect_members-place.result.0 c.collect_members-place.result.1 less c.collect_members-place.ensures.collected line counted last c.in-Ok.text c.requires.shown
      (rw c.wants_head.ensures at c.in-Ok.ensures);
}

pub returns-in-Err : goal.returns-in-Err
returns-in-Err g c = record {
  takes = λ low last counted line less.
      breaks_collected _ _ low c.args.request.now c.args.asks.now c.collect_members-place.result.0 c.collect_members-place.result.1 less c.collect_members-place.ensures.collected line counted c.requires.shown _ _;
}
