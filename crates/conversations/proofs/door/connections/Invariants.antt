use Rattle.std.proofs.Common.{All}
use Rattle.serve_door.specs.Doors.{IsFreshPair}
use Rattle.conversations.proofs.door.connections.Given as goal

abbrev pub invariant-streams : goal.invariant-streams
invariant-streams l = All IsFreshPair l.pairs.items
