use Rattle.std.proofs.Common.{arith}
use Rattle.std.proofs.lemmas.Bool.Decides.{nat_tests}
use Rattle.shared_hub.proofs.BookTicks.{ticks_by}
use Rattle.shared_hub.proofs.Since.{kept_ticked}
use Rattle.shared_hub.proofs.history.tick.Goals as goal

pub returns-clause-acts : goal.returns-clause-acts
returns-clause-acts g c =
    ticks_by g.C.Law.SiteLaw.law c.args.locked.now c.tick-answer.new.self c.args.moment c.tick-answer.result _
    (λ is same. grind (arith, nat_tests, is, same, c.requires, c.entries.ensures.value))
    (λ is. grind (arith, nat_tests, is, c.requires, c.entries.ensures.value))
    c.tick-answer.ensures.ticked

pub returns-clause-kept : goal.returns-clause-kept
returns-clause-kept g c = λ began same kept. rw (← same)
    (kept_ticked g.C.Law.SiteLaw.law began.holds c.args.locked.now c.tick-answer.new.self c.args.moment c.tick-answer.result c.tick-answer.ensures.ticked c.tick-answer.ensures.holds (rw same kept))
