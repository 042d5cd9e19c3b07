use Rattle.std.proofs.Common.{◌≡◌, cond, arith}
use Rattle.cloud_serve.proofs.Collected.{as_number, at_most_one, came_given, came_map, came_none, came_trans, each_done, each_more, each_none, each_stops}
use Rattle.cloud_serve.proofs.sharing.give_each.Goals as goal

pub loop-member-init : goal.loop-member-init
loop-member-init g c = record { few = omega arith; so_far = came_none c.args.asks.now c.args.place _ _ (each_none c.args.asks.now c.args.members.now) }

pub loop-member-preserved : goal.loop-member-preserved
loop-member-preserved g c =
    let so = c.loop-member.invariant in
    let is : c.from-made.result ≡ cond c.in-Ok.gave 1 0 = as_number c.in-Ok.gave c.from-made.result (λ e. rw e at c.from-made.ensures) (λ e. rw e at c.from-made.ensures) in
    record {
      few = omega (arith, so.few, is, at_most_one c.in-Ok.gave);
      so_far = rw is (came_trans c.args.asks.now _ _ _ _ _ _ _ _ _
          (each_more c.args.asks.now c.args.members.now c.loop-member.member-index _ c.loop-member.made c.in-Ok.gave c.order-at.result.1 c.loop-member-test.true c.in-Ok.ensures.1)
          so.so_far (came_given c.args.asks.now _ _ _ _ c.giving.result _ _ c.giving.ensures c.order-at.ensures.ordered));
    }

pub returns-in-Err-clause-gave : goal.returns-in-Err-clause-gave
returns-in-Err-clause-gave g c =
    came_trans c.args.asks.now _ _ _ _ _ _ _ _ _ (λ xs ys so only. each_stops c.args.asks.now c.args.members.now _ c.order-at.result.1 c.in-Err.back c.in-Err.ensures.0 c.in-Err.ensures.1 xs ys only)
    c.loop-member.invariant.so_far (came_given c.args.asks.now _ _ _ _ c.giving.result _ _ c.giving.ensures c.order-at.ensures.ordered)

pub returns-clause-gave : goal.returns-clause-gave
returns-clause-gave g c =
    came_map c.args.asks.now _ _ _ _ _ _ (each_done c.args.asks.now c.args.members.now c.loop-member.member-index c.loop-member.made c.loop-member-test.false) c.loop-member.invariant.so_far
