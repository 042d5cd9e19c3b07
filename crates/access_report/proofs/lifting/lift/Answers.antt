use Rattle.std.proofs.Common.{sym, ◌∙◌, ap}
use Rattle.std.specs.Option.{option_copied}
use Rattle.share_graph.specs.Rows.{IsGrant}
use Rattle.access_report.proofs.Lifted.{lifted_without}
use Rattle.access_report.proofs.Spread.{is_turn}
use Rattle.access_report.proofs.lifting.lift.Goals as goal

pub returns-clause-turn : goal.returns-clause-turn
returns-clause-turn c =
    let row : IsGrant c.args.tables.now c.args.num c.in-Some.grant.now = sym c.grant.ensures ∙ ap (λ o. option_copied o) c.in-Some.is in
    is_turn c.args.tables.now c.args.num c.in-Some.grant.now c.node_of-node.result c.passed-gained.result c.args.table.now.entries c.join.new.table.entries c.join.result row c.node_of-node.ensures
    c.passed-gained.ensures c.join.ensures

pub returns-clause-without : goal.returns-clause-without
returns-clause-without c g other all =
    lifted_without c.args.tables.now g c.args.num c.in-Some.grant.now c.node_of-node.result c.passed-gained.result c.args.table.now.entries c.join.new.table.entries c.join.result c.node_of-node.ensures
    c.passed-gained.ensures c.join.ensures other all
