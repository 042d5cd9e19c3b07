use Rattle.std.proofs.Common.{refl, subst, inl}
use Rattle.desk_base.specs.Terms.{Digest, HasRunToken, IsNoneOf}
use Rattle.saved_refs.proofs.runs.caller_run.Goals as goal

pub returns-in_default : goal.returns-in_default
returns-in_default c = inl (refl, subst (λ (d : Digest). IsNoneOf c.args.state.now.runs (HasRunToken d)) c.secret_of.ensures c.in_default.ensures)
