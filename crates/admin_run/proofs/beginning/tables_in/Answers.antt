use Rattle.hub_core.proofs.Opened.{opened_formed}
use Rattle.admin_run.proofs.beginning.tables_in.Goals as goal

pub returns-in-Ok-clause-tables : goal.returns-in-Ok-clause-tables
returns-in-Ok-clause-tables c =
    let read = c.in-Ok.ensures in
    (read.exact, read.found, opened_formed c.in-Ok.tables read.checked read.limits read.numbered)
