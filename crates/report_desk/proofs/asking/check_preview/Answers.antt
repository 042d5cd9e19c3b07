use Rattle.std.proofs.Common.{inl, inr, refl}
use Rattle.std.proofs.lemmas.Bool.{false≢true}
use Rattle.report_desk.proofs.asking.check_preview.Goals as goal

pub returns-then-not-may_revoke-clause-row : goal.returns-then-not-may_revoke-clause-row
returns-then-not-may_revoke-clause-row c =
    let account = c.in_ok-account.ensures in
    inr (_, account.one, inr (account.enabled, inr (_, c.in_ok-grant.ensures, inl (refl, λ may. false≢true (c.if-not-may_revoke.ensures.1 may)))))

pub returns-clause-row : goal.returns-clause-row
returns-clause-row c =
    let account = c.in_ok-account.ensures in
    inr (_, account.one, inr (account.enabled, inr (_, c.in_ok-grant.ensures, inr (c.if-not-may_revoke.ensures.0 refl, refl))))

pub returns-clause-there : goal.returns-clause-there
returns-clause-there c = (_, c.in_ok-grant.ensures)
