use Rattle.std.proofs.Common.{inr}
use Rattle.desk_base.proofs.Words.{handed_on}
use Rattle.desk_base.proofs.callers.caller_on.Goals as goal

pub returns-in_err-has_entry : goal.returns-in_err-has_entry
returns-in_err-has_entry c =
    handed_on _ _ c.from_residual-in_err-has_entry.result c.in_err-has_entry.field-0.0 c.from_residual-in_err-has_entry.ensures.1
    (inr (inr (_, c.in_ok-account.ensures, (_, c.in_ok-known_grain.ensures), c.in_err-has_entry.ensures)))
