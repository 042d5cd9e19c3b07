use Rattle.std.proofs.Common.{Contains, IsSome}
use Rattle.share_graph.specs.declared.facts.Node.{Node}
use Rattle.least_access.specs.Solved.{Table, held_at}
use Rattle.region_access.specs.Clearing.{IsWhatWas}
use Rattle.region_work.specs.Prepared.{Clears}
use Rattle.region_access.proofs.Cleared.{RestoredBelow}
use Rattle.region_access.proofs.clearing.undo.Given as goal

abbrev pub invariant-loop-place : goal.invariant-loop-place
invariant-loop-place l =
    ((at : Node) → Contains l.nodes at → IsSome (held_at l.table.entries at))
    × ((start : Table) → Clears l.nodes start l.fn.table.entries → IsWhatWas start l.nodes l.before → RestoredBelow l.nodes start l.table.entries l.place)
