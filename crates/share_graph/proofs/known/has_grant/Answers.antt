use Rattle.share_graph.proofs.KnownRows.{found_there}
use Rattle.share_graph.proofs.known.has_grant.Goals as goal

pub returns : goal.returns
returns c = found_there c.grant.result _ c.is_some.result c.grant.ensures c.is_some.ensures
