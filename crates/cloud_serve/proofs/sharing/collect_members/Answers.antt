use Rattle.std.proofs.Common.{arith, inr, refl, sym}
use Rattle.cloud_serve.proofs.Collected.{came_map, came_none, came_trans, nothing_left, shared_more, stops_later}
use Rattle.cloud_serve.proofs.sharing.collect_members.Goals as goal

pub rounds-init : goal.rounds-init
rounds-init g c = rw c.place-place.ensures (came_none c.args.asks.now _ _ _ refl)

pub rounds-preserved : goal.rounds-preserved
rounds-preserved g c =
    came_trans c.args.asks.now _ _ _ _ _ _ _ _ _ (λ xs ys so round. shared_more c.args.asks.now c.rounds.shared c.in-Ok.made xs ys so (rw c.in-Ok.is at round)) c.rounds.invariant (c.one_round-at.ensures.rounds c.rounds.place)

pub returns-then-made-eq0 : goal.returns-then-made-eq0
returns-then-made-eq0 g c = record {
  collected = came_trans c.args.asks.now _ _ _ _ _ _ _ _ _ (λ xs ys so round. nothing_left c.args.asks.now c.rounds.shared c.in-Ok.made (sym c.if-made-eq0.true) xs ys so (rw c.in-Ok.is at round)) c.rounds.invariant (c.one_round-at.ensures.rounds c.rounds.place);
}

pub returns-in-Err : goal.returns-in-Err
returns-in-Err g c = record {
  collected = came_trans c.args.asks.now _ _ _ _ _ _ _ _ _ (λ xs ys so round. stops_later c.args.asks.now c.rounds.shared c.in-Err.back xs ys so (rw c.in-Err.is at round)) c.rounds.invariant (c.one_round-at.ensures.rounds c.rounds.place);
}

pub returns : goal.returns
returns g c = record {
  collected = came_map c.args.asks.now _ _ _ _ _ _ (λ acts so. (so, inr (omega (arith, so, c.rounds-test.false)))) c.rounds.invariant;
}
