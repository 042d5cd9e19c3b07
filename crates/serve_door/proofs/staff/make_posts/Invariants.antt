use Rattle.std.specs.Prelude.{◌≡◌, ◌+◌, ◌≤◌, All, vec_capacity, vec_len}
use Rattle.serve_door.specs.Doors.{further}
use Rattle.serve_door.proofs.staff.make_posts.Given as goal

abbrev pub invariant-handles : goal.invariant-handles
invariant-handles g l = record {
  many : vec_len l.posts ≡ l._made;
  room : l.fn.others + 1 ≤ vec_capacity l.posts;
  further_are : All (λ post. post.doorway ≡ further (g.E.Entrance.doorway l.fn.door)) l.posts.items;
}
