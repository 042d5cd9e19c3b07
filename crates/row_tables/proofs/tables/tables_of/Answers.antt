use Rattle.row_tables.proofs.Refusing.{are_checked, all_start, is_only}
use Rattle.row_tables.proofs.Fitted.{all_numbered}
use Rattle.row_tables.proofs.tables.tables_of.Goals as goal

pub returns-clause-checked : goal.returns-clause-checked
returns-clause-checked c = are_checked c.read_checked.result c.args.rows.now c.read_checked.ensures.exact

pub returns-clause-numbered : goal.returns-clause-numbered
returns-clause-numbered c = all_numbered c.read_checked.result c.args.rows.now c.read_checked.ensures.found

pub returns-clause-moment : goal.returns-clause-moment
returns-clause-moment c = all_start c.read_checked.result c.args.rows.now c.read_checked.ensures.exact c.read_checked.ensures.found

pub returns-clause-only : goal.returns-clause-only
returns-clause-only c = is_only c.read_checked.result c.args.rows.now c.read_checked.ensures.exact
