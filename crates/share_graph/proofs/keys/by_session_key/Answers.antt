use Rattle.share_graph.specs.declared.sessions.Session.{Session}
use Rattle.share_graph.proofs.FirstOf.{one_by}
use Rattle.share_graph.proofs.keys.by_session_key.Goals as goal

pub returns : goal.returns
returns c = one_by (λ (row : Session). row.digest) c.args.digest.now (λ row. row.now) c.args.state.now.sessions c.first_with.result c.first_with.ensures
