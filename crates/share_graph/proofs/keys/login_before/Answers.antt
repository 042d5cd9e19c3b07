use Rattle.std.proofs.Common.{take}
use Rattle.share_graph.specs.declared.rows.Account.{Account}
use Rattle.share_graph.proofs.FirstOf.{found_by}
use Rattle.share_graph.proofs.keys.login_before.Goals as goal

pub returns : goal.returns
returns c = found_by (λ (row : Account). row.login) c.args.digest.now (λ row. row.now) (take c.args.place c.args.accounts.now) c.first_before.result c.first_before.ensures
