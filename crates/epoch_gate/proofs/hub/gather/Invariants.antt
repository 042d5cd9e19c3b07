use Rattle.std.specs.Prelude.{◌≡◌, ◌+◌, ◌≤◌, All, length}
use mathlib.Core.List.{IsPrefix}
use Rattle.epoch_gate.specs.Passes.{accepted}
use Rattle.epoch_gate.proofs.hub.gather.Given as goal

abbrev pub invariant-loop-pass : goal.invariant-loop-pass
invariant-loop-pass g l = record {
  parts : l.all.parts + l.fn.maker ≡ 65537 + length l.yielded;
  few : l.all.parts ≤ 65537;
  amount : l.all.amount ≡ accepted l.yielded;
  same : l.vault ≡ l.fn.vault;
  seen : All (λ pass. IsPrefix pass.seen l.fn.vault) l.yielded;
}
