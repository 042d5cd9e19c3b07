use Rattle.std.proofs.Common.{refl, arith}
use Rattle.admin_run.proofs.program.usage.Goals as goal

pub returns-clause-tells : goal.returns-clause-tells
returns-clause-tells g c = rw (← c.world.view_is) (record { others = refl; told = c.tell-status.ensures.tells })

pub returns-clause-cause : goal.returns-clause-cause
returns-clause-cause g c = rw (← c.world.view_is)
    (record {
      taken = λ is. absurd (omega (arith, is, c.tell-status.ensures.either (λ five. omega (arith, is, five))));
      written = c.tell-status.ensures.cause (λ e. omega (arith, e));
      stored = λ is. absurd (omega (arith, is, c.tell-status.ensures.either (λ five. omega (arith, is, five))));
    })
