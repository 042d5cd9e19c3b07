use Rattle.std.proofs.Common.{[], append-nil, sym}
use Rattle.hub_core.specs.Sharing.{book_of}
use Rattle.hub_core.proofs.Placing.{goes_here, judged_here, none_taken}
use Rattle.hub_core.proofs.solo.SoloDeskDesk.verdict.Goals as goal

pub returns-in_err-verdict-clause-none : goal.returns-in_err-verdict-clause-none
returns-in_err-verdict-clause-none g c = rw (← c.self.view_is) (none_taken _)

pub returns-clause-none : goal.returns-clause-none
returns-clause-none g c = rw (← c.self.view_is) (none_taken _)

pub returns-clause-judged : goal.returns-clause-judged
returns-clause-judged g c = rw (← c.self.view_is, c.entries.ensures.value)
    (judged_here g.C.Law.SiteLaw.law c.self.inside.locked c.args.key.now c.in_ok-verdict.verdict c.in_ok-verdict.ensures.formed c.in_ok-verdict.ensures.verdict)

pub returns-clause-onward : goal.returns-clause-onward
returns-clause-onward g c =
    let locked = c.self.inside.locked in
    rw (← c.self.view_is, c.entries.ensures.value)
    (goes_here (book_of g.C.Law.SiteLaw.law locked) locked.history [] (sym (append-nil locked.history)) c.entries.ensures.onward)
