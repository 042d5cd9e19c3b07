use Rattle.std.proofs.Common.{inl, inr, refl}
use Rattle.std.proofs.lemmas.Bool.{false≢true}
use Rattle.report_desk.proofs.asking.check_access.Goals as goal

pub returns-then-not-owns-clause-row : goal.returns-then-not-owns-clause-row
returns-then-not-owns-clause-row c =
    let account = c.in_ok-account.ensures in
    inr (_, account.one, inr (account.enabled, inr (_, c.in_ok-grain.ensures, inl (refl, λ own. false≢true (c.if-not-owns.ensures.1 own)))))

pub returns-clause-row : goal.returns-clause-row
returns-clause-row c =
    let account = c.in_ok-account.ensures in
    inr (_, account.one, inr (account.enabled, inr (_, c.in_ok-grain.ensures, inr (c.if-not-owns.ensures.0 refl, refl))))
