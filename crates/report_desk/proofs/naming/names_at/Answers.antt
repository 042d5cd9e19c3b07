use Rattle.report_desk.proofs.Holding.{app_of_node}
use Rattle.report_desk.proofs.naming.names_at.Goals as goal

pub unreachable-requires : goal.unreachable-requires
unreachable-requires c =
    let (app, is) = app_of_node c.args.tables.now c.requires.coherent c.args.node c.grain_of.result c.requires.there c.grain_of.ensures in
    c.in_default.ensures app is
