use Rattle.std.proofs.Common.{inl, inr, refl, rules}
use Rattle.account_desk.proofs.grains.set_trashed.Goals as goal

pub returns-then-ne : goal.returns-then-ne
returns-then-ne c =
    let account = c.in_ok-account.ensures in
    inr (_, account.one, inr (account.enabled, inr (_, c.in_ok-grain.ensures, inl (refl, search rules))))
