use Rattle.std.proofs.Common.{arith}
use Rattle.serve_door.specs.Doors.{IsFreshList}
use Rattle.serve_door.proofs.Fresh.{first_is, others_are}
use Rattle.serve_door.proofs.mem_halls.MemHallsHallDoor.accept.Goals as goal

pub invariant_of-self : goal.invariant_of-self
invariant_of-self g c = (
  omega (arith, c.in-Some.ensures.len, c.self.invariant.0),
  omega (arith, c.in-Some.ensures.len, c.self.invariant.1),
  omega (arith, c.self.invariant.2),
  others_are IsFreshList _ _ _ c.in-Some.ensures.items c.self.invariant.3,
)

pub returns-in-Some-clause-fresh : goal.returns-in-Some-clause-fresh
returns-in-Some-clause-fresh g c = first_is IsFreshList _ _ _ c.in-Some.ensures.items c.self.invariant.3
