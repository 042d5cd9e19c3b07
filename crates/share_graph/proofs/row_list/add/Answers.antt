use Rattle.std.proofs.Common.{◌≡◌, ◌+◌, ◌≤◌, Some, vec_len, vec_capacity, rules, subst}
use Rattle.share_graph.specs.Rooms.{IsBetweenPowers, HasRoom, IsRoomBeside}
use Rattle.share_graph.proofs.Roomy.{roomy_next, roomy_more}
use Rattle.share_graph.proofs.row_list.add.Goals as goal
use Rattle.share_graph.proofs.row_list.add.Goals.{in-Some, in_default}

pub returns-clause-has_room : goal.returns-clause-has_room
returns-clause-has_room g c = elim c.match-room.branch [
  | in-Some w ↦
      let beside : c.room.inside.beside ≡ vec_len c.args.items.now = Prim.grind (rules, c.room.view_is, c.requires.room) in
      let grown : IsRoomBeside c.room.inside.beside (Some w.in-Some.grown) = subst (IsRoomBeside c.room.inside.beside) w.in-Some.is c.room.invariant in
      let more : HasRoom (c.room.inside.beside + 1) (vec_capacity w.grow.new.items) = roomy_more _ _ _ grown.1 (subst (λ vec. vec_capacity vec ≤ vec_capacity w.grow.new.items) w.in-Some.grown-is w.grow.ensures.capacity) in
      rw (c.push_reserved.ensures.len, c.push_reserved.ensures.capacity, w.items-is, w.grow.ensures.len, ← beside) more
  | in_default w ↦
      let beside : c.room.inside.beside ≡ vec_len c.args.items.now = Prim.grind (rules, c.room.view_is, c.requires.room) in
      let between : IsBetweenPowers (vec_len c.args.items.now) = subst IsBetweenPowers beside (subst (IsRoomBeside c.room.inside.beside) w.in_default.is c.room.invariant) in
      rw (c.push_reserved.ensures.len, c.push_reserved.ensures.capacity, w.items-is) (roomy_next _ _ between c.requires.has_room)
]
