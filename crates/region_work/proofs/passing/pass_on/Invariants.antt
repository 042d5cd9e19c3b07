use Rattle.std.proofs.Common.{◌≡◌, ◌+◌, ◌-◌, ◌≤◌, take}
use Rattle.std.specs.Prelude.{sum_by}
use Rattle.least_access.specs.Solved.{Table}
use Rattle.region_work.specs.Moves.{Moves}
use Rattle.region_work.specs.Owed.{owed}
use Rattle.region_work.proofs.PassedOn.{PassedOn}
use Rattle.region_work.proofs.passing.pass_on.Given as goal

abbrev pub invariant-loop-num : goal.invariant-loop-num
invariant-loop-num g l =
    (g.V.Probe.tables l.probe ≡ g.V.Probe.tables l.fn.probe)
    × ((start : Table) → Moves l.gain start l.table.entries → g.V.Probe.count l.probe ≤ g.V.Probe.count l.fn.probe
    + sum_by (λ num. owed (g.V.Probe.tables l.fn.probe) start num - owed (g.V.Probe.tables l.fn.probe) l.table.entries num) (take l.num-index l.fed))
    × PassedOn (g.V.Probe.tables l.fn.probe) l.table.entries l.gain l.fn.waiting l.waiting l.fed l.num-index
