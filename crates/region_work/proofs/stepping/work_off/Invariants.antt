use Rattle.std.proofs.Common.{◌≡◌, ◌+◌, ◌*◌, ◌≤◌, List, length}
use Rattle.host_base.specs.declared.ids.GrantId.{GrantId}
use Rattle.least_access.specs.Rounds.{total_room}
use Rattle.region_work.specs.Working.{IsWorking, HasRegion, owed_by}
use Rattle.region_work.proofs.stepping.work_off.Given as goal

abbrev pub invariant-steps : goal.invariant-steps
invariant-steps g l =
    (g.V.Probe.tables l.probe ≡ g.V.Probe.tables l.fn.probe) × IsWorking (g.V.Probe.tables l.fn.probe) l.table.entries l.waiting
    × ((gs : List GrantId) → HasRegion (g.V.Probe.tables l.fn.probe) l.fn.waiting.found gs → HasRegion (g.V.Probe.tables l.fn.probe) l.waiting.found gs)
    × ((gs : List GrantId) → HasRegion (g.V.Probe.tables l.fn.probe) l.fn.waiting.found gs
    → g.V.Probe.count l.probe + owed_by (g.V.Probe.tables l.fn.probe) l.table.entries gs ≤ g.V.Probe.count l.fn.probe + owed_by (g.V.Probe.tables l.fn.probe) l.fn.table.entries gs)

abbrev pub decreases-steps : goal.decreases-steps
decreases-steps g l = 2 * total_room l.waiting.found + length l.waiting.queue
