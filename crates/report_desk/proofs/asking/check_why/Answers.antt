use Rattle.std.proofs.Common.{ap, inl, inr, refl}
use Rattle.std.proofs.lemmas.Bool.{false≢true}
use Rattle.desk_base.specs.Steps.{Refuses}
use Rattle.desk_base.proofs.Words.{handed_on}
use Rattle.report_desk.proofs.asking.check_why.Goals as goal

pub returns-in_err-known_account-clause-row : goal.returns-in_err-known_account-clause-row
returns-in_err-known_account-clause-row c =
    let account = c.in_ok-account.ensures in
    let none = c.in_err-known_account.ensures in
    handed_on _ _ c.from_residual-in_err-known_account.result c.in_err-known_account.field-0.0 c.from_residual-in_err-known_account.ensures.1
    (inr (_, account.one, inr (account.enabled, inr (_, c.in_ok-grain.ensures, inl (ap Refuses none.0, none.1)))))

pub returns-then-not-may_ask_why-clause-row : goal.returns-then-not-may_ask_why-clause-row
returns-then-not-may_ask_why-clause-row c =
    let account = c.in_ok-account.ensures in
    inr (_, account.one, inr (account.enabled, inr (_, c.in_ok-grain.ensures, inr (_, c.in_ok-known_account.ensures, inl (refl, λ may. false≢true (c.if-not-may_ask_why.ensures.1 may))))))

pub returns-clause-row : goal.returns-clause-row
returns-clause-row c =
    let account = c.in_ok-account.ensures in
    inr (_, account.one, inr (account.enabled, inr (_, c.in_ok-grain.ensures, inr (_, c.in_ok-known_account.ensures, inr (c.if-not-may_ask_why.ensures.0 refl, refl)))))
