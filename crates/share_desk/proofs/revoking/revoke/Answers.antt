use Rattle.std.proofs.Common.{sym, ◌∙◌, inl, inr, refl}
use Rattle.std.proofs.lemmas.Bool.{false≢true}
use Rattle.share_desk.proofs.revoking.revoke.Goals as goal

pub returns-then-not-may_revoke-clause-row : goal.returns-then-not-may_revoke-clause-row
returns-then-not-may_revoke-clause-row c =
    let account = c.in_ok-account.ensures in
    inr (_, account.one, inr (account.enabled, inr (_, c.in_ok-grant.ensures, inl (refl, λ may. false≢true (c.if-not-may_revoke.ensures.1 may)))))

pub returns-then-grant-clause-row : goal.returns-then-grant-clause-row
returns-then-grant-clause-row c =
    let account = c.in_ok-account.ensures in
    inr (_, account.one, inr (account.enabled, inr (_, c.in_ok-grant.ensures, inr (c.if-not-may_revoke.ensures.0 refl, inl (refl, c.if-grant.true)))))

pub returns-clause-row : goal.returns-clause-row
returns-clause-row c =
    let account = c.in_ok-account.ensures in
    inr (_, account.one, inr (account.enabled, inr (_, c.in_ok-grant.ensures, inr (c.if-not-may_revoke.ensures.0 refl, inr (λ gone. false≢true (sym c.if-grant.false ∙ gone), inr (refl, refl))))))
