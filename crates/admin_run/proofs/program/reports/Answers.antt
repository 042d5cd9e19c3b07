use Rattle.std.proofs.Common.{refl, inl}
use Rattle.admin_run.proofs.program.reports.Goals as goal

pub returns-clause-reports : goal.returns-clause-reports
returns-clause-reports g c = rw (← c.world.view_is, ← c.world-inside.view_is) (record {
  moment = c.now-moment.result;
  ticks = c.now-moment.ensures;
  reported = c.report-status.ensures.reported;
  kept = c.report-status.ensures.kept;
  others = refl;
})

pub returns-clause-cause : goal.returns-clause-cause
returns-clause-cause g c = rw (← c.world.view_is, ← c.world-inside.view_is)
    (record {
      taken = λ is. absurd (c.report-status.ensures.unread is);
      written = c.report-status.ensures.cause;
      stored = λ is. inl (c.report-status.ensures.store is);
    })
