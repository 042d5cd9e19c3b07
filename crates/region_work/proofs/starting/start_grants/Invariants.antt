use Rattle.std.proofs.Common.{◌≡◌, ◌+◌, ◌≤◌, take}
use Rattle.region_work.specs.Starting.{bound_by}
use Rattle.region_work.specs.Working.{owed_by}
use Rattle.region_work.proofs.Started.{StartedBelow}
use Rattle.region_work.proofs.starting.start_grants.Given as goal

abbrev pub invariant-loop-num : goal.invariant-loop-num
invariant-loop-num g l =
    (g.V.Probe.tables l.probe ≡ g.V.Probe.tables l.fn.probe)
    × (g.V.Probe.count l.probe + owed_by (g.V.Probe.tables l.fn.probe) l.table.entries (take l.num-index l.grants) ≤ g.V.Probe.count l.fn.probe + bound_by (g.V.Probe.tables l.fn.probe) (take l.num-index l.grants))
    × (g.V.Probe.count l.probe ≡ g.V.Probe.count l.fn.probe + l.num-index)
    × StartedBelow (g.V.Probe.tables l.fn.probe) l.table.entries l.grants l.fn.waiting l.waiting l.num-index
