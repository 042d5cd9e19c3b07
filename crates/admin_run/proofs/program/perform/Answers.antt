use Rattle.std.proofs.Common.{sym, subst}
use Rattle.admin_run.specs.Program.{AtDoor}
use Rattle.admin_run.proofs.program.perform.Goals as goal

pub returns-in-Check-clause-does : goal.returns-in-Check-clause-does
returns-in-Check-clause-does g c = rw c.in-Check.is c.check.ensures.checks

pub returns-in-Serve-clause-does : goal.returns-in-Serve-clause-does
returns-in-Serve-clause-does g c = rw c.in-Serve.is (rw c.tunnels_in.ensures at c.serve.ensures.serves)

pub returns-in-Unknown-clause-does : goal.returns-in-Unknown-clause-does
returns-in-Unknown-clause-does g c = rw c.in-Unknown.is c.usage.ensures.tells

pub serve-requires-clause-order : goal.serve-requires-clause-order
serve-requires-clause-order g c κs within = c.requires.order (subst AtDoor (sym c.in-Serve.is) tt)

pub returns-in-Collect-clause-does : goal.returns-in-Collect-clause-does
returns-in-Collect-clause-does g c = rw c.in-Collect.is c.collect.ensures.collects

pub returns-in-Access-clause-does : goal.returns-in-Access-clause-does
returns-in-Access-clause-does g c = rw c.in-Access.is c.reports.ensures.reports

pub returns-in-Preview-clause-does : goal.returns-in-Preview-clause-does
returns-in-Preview-clause-does g c = rw c.in-Preview.is c.reports-in-Preview.ensures.reports
