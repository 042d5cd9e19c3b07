use Rattle.cloud_serve.proofs.Collected.{came_asked, came_map, came_trans, round_ends, round_stops}
use Rattle.cloud_serve.proofs.sharing.one_round.Goals as goal

pub returns-in-Ok-clause-rounds : goal.returns-in-Ok-clause-rounds
returns-in-Ok-clause-rounds g c place =
    came_trans c.args.asks.now _ _ _ _ _ _ _ _ _ (round_ends c.args.asks.now c.order-place.result.1 c.as_slice.result.now c.give_each.result.1 (rw c.as_slice.ensures c.in-Ok.ensures))
    (came_asked c.args.asks.now place _ _ c.question.result _ _ c.question.ensures c.order-place.ensures.ordered) c.give_each.ensures.gave

pub returns-in-Err-clause-rounds : goal.returns-in-Err-clause-rounds
returns-in-Err-clause-rounds g c place =
    came_map c.args.asks.now _ _ _ _ _ _ (round_stops c.args.asks.now c.order-place.result.1 c.in-Err.back c.in-Err.ensures.0 c.in-Err.ensures.1)
    (came_asked c.args.asks.now place _ _ c.question.result _ _ c.question.ensures c.order-place.ensures.ordered)
