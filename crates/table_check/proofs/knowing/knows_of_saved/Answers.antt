use Rattle.std.proofs.Common.{refl}
use Rattle.table_check.proofs.knowing.knows_of_saved.Goals as goal

pub returns-then-has_grain : goal.returns-then-has_grain
returns-then-has_grain c = (λ yes. record { holder = c.if-has_grain.ensures.0 refl; grant = c.has_grant.ensures.0 yes }, λ knows. c.has_grant.ensures.1 knows.grant)
