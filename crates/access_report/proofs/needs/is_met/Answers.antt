use Rattle.access_report.specs.Steps.{Cites}
use Rattle.access_report.proofs.Cited.{set_by}
use Rattle.access_report.proofs.needs.is_met.Goals as goal

pub returns-then-cites : goal.returns-then-cites
returns-then-cites c =
    rw c.in-PermissionsHeld.is
    (set_by c.args.tables.now (Cites c.args.steps.now c.args.before c.args.from.now) c.in-PermissionsHeld.holder c.in-PermissionsHeld.set c.cites_each.result
    (c.cites-in-PermissionsHeld.ensures.0 c.if-cites.true) c.cites_each.ensures)
