use Rattle.std.specs.Prelude.{◌≡◌, ◌≤◌}
use Rattle.serve_door.specs.Connections.{ServesMany}
use Rattle.serve_door.specs.Doors.{IsInOrder, IsWithinPlan}
use Rattle.serve_door.proofs.tunneling.serve_tunnels.Given as goal

abbrev pub invariant-tunnels : goal.invariant-tunnels
invariant-tunnels g l = record {
  many : ServesMany (g.D.Desk.book l.fn.desk) (g.D.Desk.book l.desk) (g.E.Entrance.doorway l.fn.halls) (g.E.Entrance.doorway l.halls) 0;
  order : IsInOrder (g.E.Entrance.doorway l.halls);
  within : IsWithinPlan (g.E.Entrance.doorway l.fn.halls) → IsWithinPlan (g.E.Entrance.doorway l.halls);
  counts : (g.E.Entrance.doorway l.fn.halls).faults ≤ (g.E.Entrance.doorway l.halls).faults;
  start : (g.D.Desk.book l.desk).start ≡ (g.D.Desk.book l.fn.desk).start;
}
