use Rattle.std.proofs.Common.{rules, ◌≡◌, ◌++◌, [], ◌∷◌, ap, arith}
use Rattle.front_http.specs.Reading.{Reading, unread}
use Rattle.cloud_serve.proofs.Runs.{so_far_none, so_far_more, served_when, served_spent, complete_when}
use Rattle.cloud_serve.proofs.serve.serve_conn.Goals as goal

pub requests-init : goal.requests-init
requests-init g c =
    let none : c.new-places.result.items ≡ [] = search rules in
    let fresh : c.new-reader.result ≡ unread = c.new-reader.ensures.unread in
    record { running = ap (λ (r : Reading). r.stopped) fresh; few = omega arith; so_far = rw (none, fresh) (so_far_none _ c.place-from.result c.place-from.ensures) }

pub requests-preserved : goal.requests-preserved
requests-preserved g c =
    let pushed : c.push.new.self.items ≡ c.requests.places.items ++ c.in-Ok.place ∷ [] = search rules in
    let s = c.requests.invariant.so_far in
    record {
      running = c.in-Ok.ensures.running;
      few = omega (arith, c.serve_one.ensures.few);
      so_far = rw pushed (so_far_more _ _ _ c.requests.reader c.serve_one.new.reader c.place-from.result c.requests.last c.requests.places.items c.requests.served c.requests.forwarded c.serve_one.new.forwarded c.in-Ok.place s
          (c.in-Ok.ensures.steps s.high s.high_within) c.serve_one.ensures.reads c.serve_one.ensures.writes c.serve_one.ensures.whole);
    }

pub returns-in-Err-clause-served : goal.returns-in-Err-clause-served
returns-in-Err-clause-served g c =
    let s = c.requests.invariant.so_far in
    rw (c.ended.ensures, c.serve_one.ensures.places) (served_when _ _ _ c.requests.reader c.place-from.result c.requests.last c.requests.places.items c.requests.served c.requests.forwarded c.serve_one.new.forwarded c.in-Err.end c.place-from.ensures s
    (c.in-Err.ensures.steps s.high s.high_within) (omega arith) c.serve_one.ensures.reads c.serve_one.ensures.writes)

pub returns-in-Err-clause-complete : goal.returns-in-Err-clause-complete
returns-in-Err-clause-complete g c input all told means few reads writes =
    let s = c.requests.invariant.so_far in
    rw c.ended.ensures (complete_when _ _ c.in-Err.end c.place-from.result c.requests.places.items c.requests.served c.serve_one.new.forwarded
    (served_when _ _ _ c.requests.reader c.place-from.result c.requests.last c.requests.places.items c.requests.served c.requests.forwarded c.serve_one.new.forwarded c.in-Err.end c.place-from.ensures s
    (c.in-Err.ensures.steps s.high s.high_within) (omega arith) c.serve_one.ensures.reads c.serve_one.ensures.writes) input all told means few reads writes)

pub returns-clause-served : goal.returns-clause-served
returns-clause-served g c =
    let at_limit : c.requests.served ≡ 1000000 = omega arith in
    rw c.ended-2.ensures (served_spent _ _ c.requests.reader c.place-from.result c.requests.last c.requests.places.items c.requests.forwarded c.place-from.ensures (rw at_limit at c.requests.invariant.so_far))

pub returns-clause-complete : goal.returns-clause-complete
returns-clause-complete g c input all told means few reads writes =
    let at_limit : c.requests.served ≡ 1000000 = omega arith in
    rw c.ended-2.ensures (complete_when _ _ _ c.place-from.result c.requests.places.items 1000000 c.requests.forwarded
    (served_spent _ _ c.requests.reader c.place-from.result c.requests.last c.requests.places.items c.requests.forwarded c.place-from.ensures (rw at_limit at c.requests.invariant.so_far)) input all told means few reads writes)
