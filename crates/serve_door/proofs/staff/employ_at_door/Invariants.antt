use Rattle.std.specs.Prelude.{◌≡◌, ◌+◌, ◌++◌, [], length, vec_capacity, vec_len}
use Rattle.serve_door.specs.Working.{workers_at}
use Rattle.serve_door.proofs.staff.employ_at_door.Given as goal

abbrev pub invariant-posts : goal.invariant-posts
invariant-posts g l = record {
  employed : l.workers.items ≡ l.fn.workers.items ++ workers_at l.yielded [];
  many : vec_len l.workers ≡ vec_len l.fn.workers + length l.yielded;
  capacity : vec_capacity l.workers ≡ vec_capacity l.fn.workers;
}
