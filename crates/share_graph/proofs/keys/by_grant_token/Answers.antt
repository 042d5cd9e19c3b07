use Rattle.share_graph.specs.Keys.{HasToken}
use Rattle.share_graph.proofs.FirstOf.{found_one}
use Rattle.share_graph.proofs.keys.by_grant_token.Goals as goal

pub returns : goal.returns
returns c = found_one (HasToken c.args.digest.now) (λ row. row.now) c.args.tables.now.grants _ c.first_with.ensures
