use Rattle.std.proofs.Common.{ℕ, take}
use Rattle.std.specs.List.{AllZip}
use Rattle.listings.specs.Lines.{IsGrainLine}
use Rattle.listings.proofs.entering.lines_of.Given as goal

abbrev pub invariant-loop-number : goal.invariant-loop-number
invariant-loop-number l = AllZip (λ (n : ℕ). IsGrainLine l.state l.account (record { 0 = n })) (take l.number-index l.numbers) l.lines.items
