use Rattle.std.specs.Prelude.{◌≡◌, vec_capacity, vec_len}
use Rattle.hub_jobs.proofs.staff.make_clocks.Given as goal

abbrev pub invariant-clocks : goal.invariant-clocks
invariant-clocks g l = record {
  many : vec_len l.clocks ≡ l._made;
  capacity : vec_capacity l.clocks ≡ vec_capacity l.initial.clocks;
}
