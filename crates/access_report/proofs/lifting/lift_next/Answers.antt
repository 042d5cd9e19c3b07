use Rattle.access_report.proofs.Spread.{spread}
use Rattle.access_report.proofs.lifting.lift_next.Goals as goal

pub returns-clause-spread : goal.returns-clause-spread
returns-clause-spread c =
    spread c.args.tables.now c.args.fed.now.entries c.args.num c.args.table.now.entries c.lift-gained.new.table.entries c.lift-gained.result c.args.queue.now c.wake.new.queue c.lift-gained.ensures.turn
    c.in_ok-wake.ensures
