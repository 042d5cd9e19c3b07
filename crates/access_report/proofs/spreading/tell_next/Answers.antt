use Rattle.access_report.proofs.Spread.{spread}
use Rattle.access_report.proofs.spreading.tell_next.Goals as goal

pub returns-clause-spread : goal.returns-clause-spread
returns-clause-spread c =
    spread c.args.tables.now c.args.fed.now.entries c.args.num c.args.work.now.table.entries c.raise.new.table.entries c.in_ok-gained.gained c.args.work.now.queue c.wake.new.queue
    c.in_ok-gained.ensures.turn c.in_ok-wake.ensures
