use Rattle.std.specs.Prelude.{◌≡◌, length, map, vec_capacity, vec_len}
use Rattle.hub_jobs.proofs.staff.dismiss.Given as goal

abbrev pub invariant-workers : goal.invariant-workers
invariant-workers g l = record {
  passes : l.passes.items ≡ map (λ worker. worker.desk.desk) l.yielded;
  jobs : l.jobs.items ≡ map (λ worker. worker.job) l.yielded;
  passes_many : vec_len l.passes ≡ length l.yielded;
  jobs_many : vec_len l.jobs ≡ length l.yielded;
  passes_room : vec_capacity l.passes ≡ vec_capacity l.fn.passes;
  jobs_room : vec_capacity l.jobs ≡ vec_capacity l.fn.jobs;
}
