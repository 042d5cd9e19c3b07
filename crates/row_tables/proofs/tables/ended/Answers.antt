use Rattle.std.proofs.Common.{arith}
use Rattle.row_tables.proofs.SectionExact.{ends_there, ends_before}
use Rattle.row_tables.proofs.tables.ended.Goals as goal

pub returns-then-at-rows-clause-exact : goal.returns-then-at-rows-clause-exact
returns-then-at-rows-clause-exact c = ends_before c.args.tables c.args.at c.args.rows.now (omega arith)

pub returns-clause-exact : goal.returns-clause-exact
returns-clause-exact c = ends_there c.args.tables c.args.at c.args.rows.now (omega arith)
