use Rattle.access_report.proofs.Lifted.{is_filled}
use Rattle.access_report.proofs.lifting.fill_at.Goals as goal

pub returns-clause-filled : goal.returns-clause-filled
returns-clause-filled c nodes empty =
    is_filled c.args.tables.now c.args.solved.now nodes c.args.table.now.entries c.join.new.table.entries c.args.node c.known_at-known.result c.join.result c.join.ensures
    (λ fact. c.known_at-known.ensures nodes fact empty)
