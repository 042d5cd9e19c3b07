use Rattle.std.proofs.Common.{◌≡◌, ◌≤◌, ◌++◌, ◌∷◌, [], Ok, length, subst, rules, arith}
use Rattle.host_base.specs.declared.key.Key.TheVariants as key
use Rattle.host_base.specs.declared.verdict.Verdict.{Verdict}
use Rattle.host_base.specs.declared.verdict.Verdict.TheVariants as verdict
use Rattle.hub_core.specs.Book.{Judged}
use Rattle.ws_tunnel.specs.Hall.{bytes_of}
use Rattle.tunnel_serve.specs.Exchanges.{longest}
use Rattle.tunnel_serve.proofs.Exchanging.{answers_denial, answers_long, answers_passed, breaks_passed, breaks_unasked, breaks_unjudged}
use Rattle.tunnel_serve.proofs.tunnel.answer.Goals as goal

pub returns-in-Ok-clause-answers : goal.returns-in-Ok-clause-answers
returns-in-Ok-clause-answers g c low less =
    answers_long _ _ c.args.who c.args.places.now.items c.args.number c.args.message.now c.args.desk.now _ _ low c.in-Ok.reply
    (omega (arith, c.if-len-gt-LONGEST.true, c.len.ensures)) c.in-Ok.ensures

pub returns-in-Err-clause-answers : goal.returns-in-Err-clause-answers
returns-in-Err-clause-answers g c low less =
    breaks_unasked _ _ c.args.who c.args.places.now.items c.args.number c.args.message.now c.args.desk.now _ _ low _

pub returns-in-Err-verdict-clause-answers : goal.returns-in-Err-verdict-clause-answers
returns-in-Err-verdict-clause-answers g c low less =
    breaks_unjudged _ _ c.args.who c.args.places.now.items c.args.number c.args.message.now c.args.desk.now c.verdict.new.self _ _ low
    c.in-Err-verdict.field-0 c.in-Err-verdict.ensures.gave c.verdict.ensures.none

pub returns-in-Deny-clause-answers : goal.returns-in-Deny-clause-answers
returns-in-Deny-clause-answers g c low less =
    let old = g.D.Desk.book c.args.desk.now in
    let new = g.D.Desk.book c.verdict.new.self in
    let asked = key.Session c.args.who in
    let place = c.in-Ok-verdict.place in
    let pushed : c.push.new.self.items ≡ c.args.places.now.items ++ place ∷ [] = search rules in
    let short : length (bytes_of c.args.message.now) ≤ longest = omega (arith, c.if-len-gt-LONGEST.false, c.len.ensures) in
    let gave : g.D.Desk.gave c.args.desk.now asked (Ok (place, verdict.Deny c.in-Deny.reason)) c.verdict.new.self =
    subst (λ (v : Verdict). g.D.Desk.gave c.args.desk.now asked (Ok (place, v)) c.verdict.new.self) c.in-Deny.is c.in-Ok-verdict.ensures.gave in
    let judged : Judged (length old.seen) new asked place (verdict.Deny c.in-Deny.reason) =
    subst (λ (v : Verdict). Judged (length old.seen) new asked place v) c.in-Deny.is c.in-Ok-verdict.ensures.judged in
    rw pushed (answers_denial _ _ c.args.who c.args.places.now.items c.args.number c.args.message.now c.args.desk.now c.verdict.new.self low place short less c.verdict.ensures.none
    _ _ c.in-Deny.reason c.denied.result gave judged c.denied.ensures)

pub returns-in-Ok-ask-clause-answers : goal.returns-in-Ok-ask-clause-answers
returns-in-Ok-ask-clause-answers g c low less =
    let old = g.D.Desk.book c.args.desk.now in
    let new = g.D.Desk.book c.verdict.new.self in
    let asked = key.Session c.args.who in
    let place = c.in-Ok-verdict.place in
    let pushed : c.push.new.self.items ≡ c.args.places.now.items ++ place ∷ [] = search rules in
    let short : length (bytes_of c.args.message.now) ≤ longest = omega (arith, c.if-len-gt-LONGEST.false, c.len.ensures) in
    let gave : g.D.Desk.gave c.args.desk.now asked (Ok (place, verdict.Forward c.in-Forward.permit)) c.verdict.new.self =
    subst (λ (v : Verdict). g.D.Desk.gave c.args.desk.now asked (Ok (place, v)) c.verdict.new.self) c.in-Forward.is c.in-Ok-verdict.ensures.gave in
    let judged : Judged (length old.seen) new asked place (verdict.Forward c.in-Forward.permit) =
    subst (λ (v : Verdict). Judged (length old.seen) new asked place v) c.in-Forward.is c.in-Ok-verdict.ensures.judged in
    rw pushed (answers_passed _ _ c.args.who c.args.places.now.items c.args.number c.args.message.now c.args.desk.now c.verdict.new.self low place short less c.verdict.ensures.none
    _ _ _ _ c.in-Forward.permit c.in-Ok-ask.reply gave judged c.in-Ok-ask.ensures.asks)

pub returns-in-Forward-clause-answers : goal.returns-in-Forward-clause-answers
returns-in-Forward-clause-answers g c low less =
    let old = g.D.Desk.book c.args.desk.now in
    let new = g.D.Desk.book c.verdict.new.self in
    let asked = key.Session c.args.who in
    let place = c.in-Ok-verdict.place in
    let pushed : c.push.new.self.items ≡ c.args.places.now.items ++ place ∷ [] = search rules in
    let short : length (bytes_of c.args.message.now) ≤ longest = omega (arith, c.if-len-gt-LONGEST.false, c.len.ensures) in
    let gave : g.D.Desk.gave c.args.desk.now asked (Ok (place, verdict.Forward c.in-Forward.permit)) c.verdict.new.self =
    subst (λ (v : Verdict). g.D.Desk.gave c.args.desk.now asked (Ok (place, v)) c.verdict.new.self) c.in-Forward.is c.in-Ok-verdict.ensures.gave in
    let judged : Judged (length old.seen) new asked place (verdict.Forward c.in-Forward.permit) =
    subst (λ (v : Verdict). Judged (length old.seen) new asked place v) c.in-Forward.is c.in-Ok-verdict.ensures.judged in
    rw pushed (breaks_passed _ _ c.args.who c.args.places.now.items c.args.number c.args.message.now c.args.desk.now c.verdict.new.self low place short less c.verdict.ensures.none
    _ _ _ _ c.in-Forward.permit c.in-Err-ask.field-0 gave judged c.in-Err-ask.ensures.asks)
