use Rattle.row_tables.proofs.AfterRows.{all_rows_after}
use Rattle.row_tables.proofs.events.row_after.Goals as goal

pub returns-clause-kept : goal.returns-clause-kept
returns-clause-kept c = all_rows_after c.event_row.result c.args.tables.now c.args.event.now c.event_row.ensures.row c.event_row.ensures.fits
