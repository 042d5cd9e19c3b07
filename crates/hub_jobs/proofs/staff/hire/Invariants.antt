use Rattle.std.specs.Prelude.{◌≡◌, ◌+◌, All, length, map, vec_capacity, vec_len}
use Rattle.hub_jobs.proofs.staff.hire.Given as goal

abbrev pub invariant-jobs : goal.invariant-jobs
invariant-jobs g l = record {
  jobs : map (λ worker. worker.job) l.workers.items ≡ l.yielded;
  unused : All (λ worker. worker.desk.desk.orders ≡ 0) l.workers.items;
  unticked : All (λ worker. worker.desk.ticks ≡ 0) l.workers.items;
  many : vec_len l.workers ≡ length l.yielded;
  room : vec_capacity l.workers ≡ vec_capacity l.fn.workers;
  passes : vec_len l.passes + length l.yielded ≡ vec_len l.fn.passes;
  clocks : vec_len l.clocks + length l.yielded ≡ vec_len l.fn.clocks;
  capacity : vec_capacity l.passes ≡ vec_capacity l.fn.passes;
  unused_passes : All (λ pass. pass.orders ≡ 0) l.passes.items;
}
