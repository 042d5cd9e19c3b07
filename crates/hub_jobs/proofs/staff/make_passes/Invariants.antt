use Rattle.std.specs.Prelude.{◌≡◌, ◌+◌, All, vec_capacity, vec_len}
use Rattle.hub_jobs.proofs.staff.make_passes.Given as goal

abbrev pub invariant-passes : goal.invariant-passes
invariant-passes g l = record {
  made : l.maker ≡ l.fn.maker + l._made;
  many : vec_len l.passes ≡ l._made;
  capacity : vec_capacity l.passes ≡ vec_capacity l.fn.passes;
  unused : All (λ pass. pass.orders ≡ 0) l.passes.items;
}
