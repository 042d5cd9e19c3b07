use Rattle.std.specs.Prelude.{◌≡◌, ◌≤◌, length, vec_capacity, vec_len}
use Rattle.serve_door.specs.Inner.{door_posts, hall_posts}
use Rattle.serve_door.proofs.staff.collect.Given as goal

abbrev pub invariant-workers : goal.invariant-workers
invariant-workers g l = record {
  doors : l.doors.items ≡ door_posts l.yielded;
  halls : l.halls.items ≡ hall_posts l.yielded;
  doors_few : vec_len l.doors ≤ length l.yielded;
  halls_few : vec_len l.halls ≤ length l.yielded;
  doors_room : vec_capacity l.doors ≡ vec_capacity l.fn.doors;
  halls_room : vec_capacity l.halls ≡ vec_capacity l.fn.halls;
}
