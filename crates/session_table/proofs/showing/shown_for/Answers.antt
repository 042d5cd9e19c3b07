use Rattle.share_graph.proofs.Coherence.{coherent}
use Rattle.session_table.proofs.Makers.{shown_is_there}
use Rattle.session_table.proofs.showing.shown_for.Goals as goal

pub shown_by-requires-in-Grant : goal.shown_by-requires-in-Grant
shown_by-requires-in-Grant c = shown_is_there c.args.tables.now (coherent c.args.tables.now c.requires.checked) c.in-Grant.num c.shown_as-who.result c.shown_as-who.ensures.shown
