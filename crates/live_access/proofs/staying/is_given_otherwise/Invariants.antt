use Rattle.std.proofs.Common.{◌≡◌, ◌+◌, ◌≤◌, List, length}
use Rattle.share_graph.specs.declared.facts.Fact.{Fact}
use Rattle.share_graph.specs.declared.facts.Node.{Node}
use Rattle.least_access.specs.Held.{IsIn}
use Rattle.region_work.specs.Emptying.{IsEmptyAt}
use Rattle.region_work.specs.Fed.{fed_in}
use Rattle.live_access.specs.Staying.{IsGivenOtherwise}
use Rattle.live_access.proofs.staying.is_given_otherwise.Given as goal

abbrev pub invariant-loop-k : goal.invariant-loop-k
invariant-loop-k g l =
    (g.V.Probe.tables l.probe ≡ g.V.Probe.tables l.fn.probe)
    × (g.V.Probe.count l.probe + l.k ≤ g.V.Probe.count l.fn.probe + length (fed_in l.arrivals.entries l.fn.at))
    × ((nodes : List Node) (fact : Fact) → IsEmptyAt nodes l.region.entries → IsIn l.given fact
    → IsGivenOtherwise (g.V.Probe.tables l.fn.probe) l.table.entries nodes l.num l.fn.at fact)
