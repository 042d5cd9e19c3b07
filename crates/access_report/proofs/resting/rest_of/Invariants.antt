use Rattle.std.proofs.Common.{◌-◌, length}
use Rattle.region_work.specs.Fed.{fed_in}
use Rattle.access_report.proofs.Backwards.{Backwards}
use Rattle.access_report.proofs.Rested.{universe}
use Rattle.access_report.proofs.resting.rest_of.Given as goal

abbrev pub invariant-loop-next : goal.invariant-loop-next
invariant-loop-next l = Backwards l.tables (fed_in l.arrivals.entries) l.fn.node l.nodes.items l.places.entries l.grants.items l.next

abbrev pub decreases-loop-next : goal.decreases-loop-next
decreases-loop-next l = length (universe l.tables l.fn.node) - l.next
