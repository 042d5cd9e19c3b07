use Rattle.std.proofs.Common.{refl, inl}
use Rattle.admin_run.proofs.program.check.Goals as goal

pub returns-clause-checks : goal.returns-clause-checks
returns-clause-checks g c = rw (← c.world.view_is, ← c.world-inside.view_is) (record { judged = c.judge-status.ensures.judged; kept = c.judge-status.ensures.kept; others = refl })

pub returns-clause-cause : goal.returns-clause-cause
returns-clause-cause g c = rw (← c.world.view_is, ← c.world-inside.view_is)
    (record {
      taken = λ is. absurd (c.judge-status.ensures.unread is);
      written = c.judge-status.ensures.cause;
      stored = λ is. inl (c.judge-status.ensures.store is);
    })
