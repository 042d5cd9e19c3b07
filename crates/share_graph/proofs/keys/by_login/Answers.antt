use Rattle.share_graph.specs.declared.rows.Account.{Account}
use Rattle.share_graph.proofs.FirstOf.{one_by}
use Rattle.share_graph.proofs.keys.by_login.Goals as goal

pub returns : goal.returns
returns c = one_by (λ (row : Account). row.login) c.args.digest.now (λ row. row.now) c.args.tables.now.accounts c.first_with.result c.first_with.ensures
