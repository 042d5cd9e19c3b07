use Rattle.share_graph.specs.declared.rows.Saved.{Saved}
use Rattle.share_graph.proofs.FirstOf.{one_by}
use Rattle.share_graph.proofs.keys.by_saved_token.Goals as goal

pub returns : goal.returns
returns c = one_by (λ (row : Saved). row.digest) c.args.digest.now (λ row. row.now) c.args.tables.now.saved c.first_with.result c.first_with.ensures
