use Rattle.hub_core.proofs.Opened.{opened_formed}
use Rattle.hub_core.specs.Opening.{opened}
use Rattle.state_step.proofs.TickLaws.{ticked_formed}
use Rattle.admin_run.proofs.Reported.{bad_told}
use Rattle.admin_run.proofs.reporting.report_rows.Goals as goal

pub report_tables-requires : goal.report_tables-requires
report_tables-requires g c =
    let read = c.in-Ok.ensures in
    ticked_formed (opened c.in-Ok.tables) (opened_formed c.in-Ok.tables read.checked read.limits read.numbered) c.args.moment

pub returns-in-Ok-bad_row_line-clause-reported : goal.returns-in-Ok-bad_row_line-clause-reported
returns-in-Ok-bad_row_line-clause-reported g c =
    bad_told c.args.asked c.args.moment (g.O.Sink.outlet c.args.out.now) (g.O.Sink.outlet c.tell_line.new.out) c.args.rows.now c.tell_line.result c.in-Err-BadRow.field-0 c.in-Err-BadRow.bad
    c.in-Ok-bad_row_line.line c.in-Err-BadRow.field-0-is c.in-Err-BadRow.ensures.exact (rw c.in-Err-BadRow.bad-is at c.in-Ok-bad_row_line.ensures) c.tell_line.ensures.tells
