use Rattle.row_tables.proofs.SectionExact.{is_found}
use Rattle.row_tables.proofs.Refusing.{all_within}
use Rattle.row_tables.proofs.tables.read_unchecked.Goals as goal

pub returns-clause-found : goal.returns-clause-found
returns-clause-found c = is_found c.args.rows.now c.read_all.result c.read_all.ensures.bytes c.read_all.ensures.exact

pub returns-clause-limits : goal.returns-clause-limits
returns-clause-limits c = all_within c.read_all.result c.args.rows.now (is_found c.args.rows.now c.read_all.result c.read_all.ensures.bytes c.read_all.ensures.exact)
