use Rattle.std.proofs.Common.{length, subst}
use Rattle.host_base.specs.declared.verdict.Verdict.{Verdict}
use Rattle.host_base.specs.declared.verdict.Verdict.TheVariants as verdict
use Rattle.hub_core.specs.Book.{Judged}
use Rattle.cloud_serve.proofs.Orders.{none_trans}
use Rattle.cloud_serve.proofs.Taking.{breaks_first, answers_denied, answers_site, answers_forwarded, breaks_forwarded}
use Rattle.cloud_serve.proofs.turn.keyed.Goals as goal

pub returns-in-Err-clause-takes : goal.returns-in-Err-clause-takes
returns-in-Err-clause-takes g c low last less =
    breaks_first _ _ _ _ low c.args.request.now c.verdict.ensures.none _ _

pub returns-in-Deny-clause-takes : goal.returns-in-Deny-clause-takes
returns-in-Deny-clause-takes g c low last less =
    breaks_first _ _ _ _ low c.args.request.now c.verdict.ensures.none _ _

pub returns-in-Ok-denial_reply-clause-takes : goal.returns-in-Ok-denial_reply-clause-takes
returns-in-Ok-denial_reply-clause-takes g c low last less =
    let old = g.D.Desk.book c.args.desk.now in
    let new = g.D.Desk.book c.verdict.new.self in
    let judged : Judged (length old.seen) new c.args.key.now c.in-Ok.place (verdict.Deny c.in-Deny.reason) =
    subst (λ (v : Verdict). Judged (length old.seen) new c.args.key.now c.in-Ok.place v) c.in-Deny.is c.in-Ok.ensures.judged in
    answers_denied low last c.args.request.now c.args.key.now c.args.passed.now c.requires.shown c.in-Ok.place old new _ _ c.in-Deny.reason _ less c.verdict.ensures.none judged
    (rw c.wants_head-head_only.ensures at c.in-Ok-denial_reply.ensures)

pub returns-in-Site-clause-takes : goal.returns-in-Site-clause-takes
returns-in-Site-clause-takes g c low last less =
    let old = g.D.Desk.book c.args.desk.now in
    let mid = g.D.Desk.book c.verdict.new.self in
    let new = g.D.Desk.book c.site_answer.new.desk in
    breaks_first old new _ _ low c.args.request.now (none_trans old mid new c.verdict.ensures.none c.site_answer.ensures.none) _ _

pub returns-in-Ok-site_answer-clause-takes : goal.returns-in-Ok-site_answer-clause-takes
returns-in-Ok-site_answer-clause-takes g c low last less =
    let old = g.D.Desk.book c.args.desk.now in
    let mid = g.D.Desk.book c.verdict.new.self in
    let new = g.D.Desk.book c.site_answer.new.desk in
    let judged : Judged (length old.seen) mid c.args.key.now c.in-Ok.place (verdict.Site c.in-Site.tag c.in-Site.item) =
    subst (λ (v : Verdict). Judged (length old.seen) mid c.args.key.now c.in-Ok.place v) c.in-Site.is c.in-Ok.ensures.judged in
    answers_site low last c.args.request.now c.args.key.now c.args.passed.now c.requires.shown c.in-Ok.place old mid new _ _ c.in-Site.tag c.in-Site.item _ less c.verdict.ensures.none c.site_answer.ensures.none judged
    (rw c.wants_head-head_only.ensures at c.in-Ok-site_answer.ensures.gives)

pub returns-in-Ok-forward-clause-takes : goal.returns-in-Ok-forward-clause-takes
returns-in-Ok-forward-clause-takes g c low last less =
    let old = g.D.Desk.book c.args.desk.now in
    let new = g.D.Desk.book c.verdict.new.self in
    let judged : Judged (length old.seen) new c.args.key.now c.in-Ok.place (verdict.Forward c.in-Forward.permit) =
    subst (λ (v : Verdict). Judged (length old.seen) new c.args.key.now c.in-Ok.place v) c.in-Forward.is c.in-Ok.ensures.judged in
    answers_forwarded low last c.args.request.now c.args.key.now c.args.passed.now c.requires.shown c.in-Ok.place old new _ _ _ _ c.in-Forward.permit _ less c.verdict.ensures.none judged
    (rw c.wants_head-head_only.ensures at c.in-Ok-forward.ensures.forwards)

pub returns-clause-takes : goal.returns-clause-takes
returns-clause-takes g c low last less =
    let old = g.D.Desk.book c.args.desk.now in
    let new = g.D.Desk.book c.verdict.new.self in
    let judged : Judged (length old.seen) new c.args.key.now c.in-Ok.place (verdict.Forward c.in-Forward.permit) =
    subst (λ (v : Verdict). Judged (length old.seen) new c.args.key.now c.in-Ok.place v) c.in-Forward.is c.in-Ok.ensures.judged in
    breaks_forwarded low last c.args.request.now c.args.key.now c.args.passed.now c.requires.shown c.in-Ok.place old new _ _ _ _ c.in-Forward.permit _ c.in-Err-forward.field-0 less c.verdict.ensures.none judged
    c.in-Err-forward.ensures.forwards _ _
