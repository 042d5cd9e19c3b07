use Rattle.std.proofs.Common.{refl, subst, inl}
use Rattle.desk_base.specs.Terms.{Digest, HasLogin, IsNoneOf}
use Rattle.desk_base.proofs.callers.caller_account.Goals as goal

pub returns-in_default : goal.returns-in_default
returns-in_default c = inl (refl, subst (λ (d : Digest). IsNoneOf c.args.state.now.tables.accounts (HasLogin d)) c.secret_of.ensures c.in_default.ensures)
