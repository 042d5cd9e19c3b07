use Rattle.std.proofs.Common.{◌≡◌, arith}
use Rattle.tunnel_serve.proofs.Serving.{so_far_none, so_far_more, serves_when, serves_spent}
use Rattle.tunnel_serve.proofs.tunnel.serve_opened.Goals as goal

pub messages-init : goal.messages-init
messages-init g c = record { few = omega arith; so_far = so_far_none _ _ _ _ _ _ _ }

pub messages-preserved : goal.messages-preserved
messages-preserved g c =
    let s = c.messages.invariant.so_far in
    record {
      few = omega (arith, c.exchange.ensures.few);
      so_far = so_far_more _ _ _ _ _ _ _ _ _ _ _ _ _ _ _ c.messages.number s (c.in-Ok.ensures.steps s.high s.within);
    }

pub returns-in-Err : goal.returns-in-Err
returns-in-Err g c =
    let s = c.messages.invariant.so_far in
    serves_when _ _ _ _ _ _ _ _ _ _ _ _ _ _ _ c.messages.number _ s (omega arith) (c.in-Err.ensures.steps s.high s.within)

pub returns : goal.returns
returns g c =
    let at_limit : c.messages.number ≡ 1000000 = omega arith in
    serves_spent _ _ _ _ _ _ _ _ _ _ _ (rw at_limit at c.messages.invariant.so_far)
