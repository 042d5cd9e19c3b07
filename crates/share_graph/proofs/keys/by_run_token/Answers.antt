use Rattle.share_graph.specs.declared.sessions.Run.{Run}
use Rattle.share_graph.proofs.FirstOf.{one_by}
use Rattle.share_graph.proofs.keys.by_run_token.Goals as goal

pub returns : goal.returns
returns c = one_by (λ (row : Run). row.digest) c.args.digest.now (λ row. row.now) c.args.state.now.runs c.first_with.result c.first_with.ensures
