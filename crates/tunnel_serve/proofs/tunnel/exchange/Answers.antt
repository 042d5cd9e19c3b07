use Rattle.std.proofs.Common.{refl}
use Rattle.tunnel_serve.specs.declared.tunnel_end.HallEnd.TheVariants as end
use Rattle.tunnel_serve.proofs.Moving.{given_as, left_none, moved_end, moved_next}
use Rattle.tunnel_serve.proofs.Exchanging.{steps_settled, stops_bare, stops_broken}
use Rattle.tunnel_serve.proofs.tunnel.exchange.Goals as goal

pub returns-in-None-clause-steps : goal.returns-in-None-clause-steps
returns-in-None-clause-steps g c low less =
    let old = g.M.Messages.hall c.args.messages.now in
    let new = g.M.Messages.hall c.next.new.self in
    let given = given_as old.left new c.in-Ok.next _ c.in-None.is c.in-Ok.ensures.given in
    rw c.reserve.ensures.items (stops_bare _ _ c.args.who _ _ c.args.desk.now c.args.places.now.items _ low c.args.number end.Closed (λ b from count few. few) refl
    (moved_end old new given c.next.ensures.put c.next.ensures.whole c.next.ensures.counts) (left_none old new given) (c.in-Ok.ensures.ends c.in-None.is))

pub returns-in-Ok-answer-clause-steps : goal.returns-in-Ok-answer-clause-steps
returns-in-Ok-answer-clause-steps g c low less =
    let old = g.M.Messages.hall c.args.messages.now in
    let mid = g.M.Messages.hall c.next.new.self in
    let took = moved_next old mid c.in-Some.message (given_as old.left mid c.in-Ok.next _ c.in-Some.is c.in-Ok.ensures.given) c.next.ensures.put c.next.ensures.whole c.next.ensures.counts in
    steps_settled _ _ c.args.who _ _ mid c.args.desk.now c.answer.new.desk c.args.places.now.items c.answer.new.places.items _ _ low c.args.number c.in-Some.message took
    c.in-Ok-answer.outcome c.settle.result (rw c.reserve.ensures.items at (c.in-Ok-answer.ensures.answers low less)) c.settle.ensures

pub returns-in-Ok-clause-steps : goal.returns-in-Ok-clause-steps
returns-in-Ok-clause-steps g c low less =
    let old = g.M.Messages.hall c.args.messages.now in
    let mid = g.M.Messages.hall c.next.new.self in
    let took = moved_next old mid c.in-Some.message (given_as old.left mid c.in-Ok.next _ c.in-Some.is c.in-Ok.ensures.given) c.next.ensures.put c.next.ensures.whole c.next.ensures.counts in
    stops_broken _ _ c.args.who _ _ mid c.args.desk.now c.answer.new.desk c.args.places.now.items c.answer.new.places.items _ _ low c.args.number c.in-Some.message took
    c.in-Err.field-0 refl (rw c.reserve.ensures.items at (c.in-Err.ensures.answers low less))
