use Rattle.share_graph.proofs.Coherence.{coherent}
use Rattle.desk_base.proofs.roles.app_of_grain.Goals as goal

pub unreachable-requires : goal.unreachable-requires
unreachable-requires c =
    let (grain, there) = c.requires.there in
    let (app, is) = ((coherent c.args.tables.now c.requires.checked).grains c.args.num grain there).app in
    c.in-None.ensures app (grain, there, is)
