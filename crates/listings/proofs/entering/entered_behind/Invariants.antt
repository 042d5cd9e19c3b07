use Rattle.std.proofs.Common.{◌<◌, ℕ, take}
use Rattle.host_base.specs.declared.ids.GrainId.{GrainId}
use Rattle.listings.proofs.Chosen.{AreChosen}
use Rattle.listings.proofs.entering.entered_behind.Given as goal

abbrev pub invariant-loop-grain : goal.invariant-loop-grain
invariant-loop-grain l = AreChosen (λ (n : ℕ). let grain : GrainId = record { 0 = n } in grain) (λ (n : ℕ). l.fn.after < n) (take l.grain-index l.grain-items) l.numbers.items
