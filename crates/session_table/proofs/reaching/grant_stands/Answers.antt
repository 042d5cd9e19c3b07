use Rattle.share_graph.proofs.Coherence.{coherent}
use Rattle.session_table.proofs.Roots.{grant_is_behind}
use Rattle.session_table.proofs.reaching.grant_stands.Goals as goal

pub stands-requires-clause-there : goal.stands-requires-clause-there
stands-requires-clause-there c = grant_is_behind c.args.state.now.tables (coherent c.args.state.now.tables c.requires.checked) c.args.num c.args.grant.now c.requires.row c.requires.own
