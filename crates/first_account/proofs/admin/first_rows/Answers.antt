use Rattle.first_account.proofs.Opening.{row_there}
use Rattle.first_account.proofs.admin.first_rows.Goals as goal

pub row_bytes-requires : goal.row_bytes-requires
row_bytes-requires c = row_there c.in_ok-tables.tables c.args.token.now c.in_ok-tables.ensures
