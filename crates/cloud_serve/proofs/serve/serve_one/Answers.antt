use Rattle.std.specs.Prelude.{IfOk, IfSome}
use Rattle.std.proofs.Common.{◌≡◌, Option, Result, Ok, Err, refl, ◌∙◌, ap, subst, sym}
use Rattle.host_base.specs.declared.request.Request.{Request}
use Rattle.front_http.specs.declared.fault.FrontFault.{FrontFault}
use Rattle.front_http.specs.Reading.{Next}
use Rattle.cloud_serve.proofs.Serving.{cut_ended, none_ended, stops_done, stops_halted, stops_no_room}
use Rattle.cloud_serve.proofs.serve.serve_one.Goals as goal

pub returns-then-is_err-clause-steps : goal.returns-then-is_err-clause-steps
returns-then-is_err-clause-steps g c low less = rw (← c.wire.view_is)
    (stops_no_room low c.args.last _ c.args.reader.now _ _ c.close_with.result c.memory_reply.result.now refl refl c.memory_reply.ensures c.close_with.ensures.closes)

pub returns-in-Some-clause-steps : goal.returns-in-Some-clause-steps
returns-in-Some-clause-steps g c low less = rw (← c.wire.view_is)
    (c.answer_one.ensures.steps low _ _ c.args.reader.now c.next.new.self less
    (λ left is. subst (λ (r : Result (Option Request) FrontFault). Next c.args.reader.now left r c.next.new.self (g.I.Source.inlet c.next.new.input).left) (c.in-Ok.is ∙ ap Ok c.in-Some.is) (c.next.ensures.given left is c.requires.running))
    (λ closed. sym (subst (λ (r : Result (Option Request) FrontFault). IfOk r (λ found. IfSome found (λ request. c.next.new.self.closed ≡ request.last))) (c.in-Ok.is ∙ ap Ok c.in-Some.is) c.next.ensures.closes) ∙ closed))

pub returns-in-None-clause-steps : goal.returns-in-None-clause-steps
returns-in-None-clause-steps g c low less = rw (← c.wire.view_is)
    (stops_done low c.args.last _ c.args.reader.now _ _ refl refl refl
    (λ left is. subst (λ (r : Result (Option Request) FrontFault). Next c.args.reader.now left r c.next.new.self (g.I.Source.inlet c.next.new.input).left) (c.in-Ok.is ∙ ap Ok c.in-None.is) (c.next.ensures.given left is c.requires.running))
    (none_ended c.args.reader.now.closed (g.I.Source.inlet c.next.new.input).ended c.next.result (c.next.ensures.ends c.requires.running) (c.in-Ok.is ∙ ap Ok c.in-None.is)))

pub returns-in-Err-clause-steps : goal.returns-in-Err-clause-steps
returns-in-Err-clause-steps g c low less = rw (← c.wire.view_is)
    (stops_halted low c.args.last _ c.args.reader.now c.next.new.self _ _ c.in-Err.fault c.halt.result refl refl
    (λ left is. subst (λ (r : Result (Option Request) FrontFault). Next c.args.reader.now left r c.next.new.self (g.I.Source.inlet c.next.new.input).left) c.in-Err.is (c.next.ensures.given left is c.requires.running))
    (λ read. c.next.ensures.cause (c.in-Err.is ∙ ap Err read) c.requires.running)
    (λ n cut. cut_ended c.args.reader.now.closed (g.I.Source.inlet c.next.new.input).ended c.next.result n (λ closed. (c.next.ensures.closed c.requires.running closed).0) (c.next.ensures.ends c.requires.running) (c.in-Err.is ∙ ap Err cut)) c.halt.ensures.halts)
