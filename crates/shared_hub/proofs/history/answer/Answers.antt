use Rattle.std.proofs.Common.{arith}
use Rattle.std.proofs.lemmas.Bool.Decides.{nat_tests}
use Rattle.shared_hub.proofs.BookOrders.{acts_by}
use Rattle.shared_hub.proofs.Since.{kept_more}
use Rattle.shared_hub.proofs.history.answer.Goals as goal

pub returns-clause-acts : goal.returns-clause-acts
returns-clause-acts g c =
    acts_by g.C.Law.SiteLaw.law c.args.locked.now c.order-answer.new.self c.args.order c.order-answer.result _
    (λ is same. grind (arith, nat_tests, is, same, c.requires, c.entries.ensures.value))
    (λ is. grind (arith, nat_tests, is, c.requires, c.entries.ensures.value))
    c.order-answer.ensures.ordered

pub returns-clause-kept : goal.returns-clause-kept
returns-clause-kept g c = λ began same kept. rw (← same)
    (kept_more g.C.Law.SiteLaw.law began.holds c.args.locked.now c.order-answer.new.self c.args.order c.order-answer.result c.order-answer.ensures.ordered (rw same kept))
