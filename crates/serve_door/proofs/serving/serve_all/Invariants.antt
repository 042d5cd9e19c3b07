use Rattle.std.proofs.Common.{◌≡◌, ◌≤◌}
use Rattle.serve_door.specs.Connections.{ServesMany}
use Rattle.serve_door.specs.Doors.{IsInOrder, IsWithinPlan}
use Rattle.serve_door.proofs.serving.serve_all.Given as goal

abbrev pub invariant-connections : goal.invariant-connections
invariant-connections g l = record {
  many : ServesMany (g.D.Desk.book l.fn.desk) (g.D.Desk.book l.desk) (g.E.Entrance.doorway l.fn.door) (g.E.Entrance.doorway l.door) l.answered;
  order : IsInOrder (g.E.Entrance.doorway l.door);
  within : IsWithinPlan (g.E.Entrance.doorway l.fn.door) → IsWithinPlan (g.E.Entrance.doorway l.door);
  counts : (g.E.Entrance.doorway l.fn.door).faults ≤ (g.E.Entrance.doorway l.door).faults;
  start : (g.D.Desk.book l.desk).start ≡ (g.D.Desk.book l.fn.desk).start;
}
