use Rattle.std.specs.BTreeMap.{is_at}
use Rattle.std.proofs.lemmas.Map.Entries.{sum_by-set_value}
use Rattle.share_graph.specs.contracts.facts.NodeOrd.TheImpl as node_order
use Rattle.least_access.specs.Held.{room}
use Rattle.least_access.proofs.table.put.Goals as goal

pub returns-in-Some-clause-room : goal.returns-in-Some-clause-room
returns-in-Some-clause-room c before is =
    rw ((c.get_mut.follows.holds c.args.held).0) (sum_by-set_value room (is_at (node_order.ghosts.cmp c.args.node)) c.args.table.now.entries before c.args.held is)
