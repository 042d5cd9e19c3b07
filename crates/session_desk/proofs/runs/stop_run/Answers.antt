use Rattle.std.proofs.Common.{inl, inr, refl}
use Rattle.std.proofs.lemmas.Bool.{false≢true}
use Rattle.session_desk.proofs.runs.stop_run.Goals as goal

pub returns-then-not-may_stop-clause-row : goal.returns-then-not-may_stop-clause-row
returns-then-not-may_stop-clause-row c =
    let account = c.in_ok-account.ensures in
    inr (_, account.one, inr (account.enabled, inr (_, c.in_ok-grain.ensures, inl (refl, λ may. false≢true (c.if-not-may_stop.ensures.1 may)))))

pub returns-in-Some-clause-row : goal.returns-in-Some-clause-row
returns-in-Some-clause-row c =
    let account = c.in_ok-account.ensures in
    inr (_, account.one, inr (account.enabled, inr (_, c.in_ok-grain.ensures, inr (c.if-not-may_stop.ensures.0 refl, inr (_, c.in-Some.ensures, inr (refl, refl))))))
