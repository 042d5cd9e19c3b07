use Rattle.std.proofs.Common.{◌≡◌, ◌+◌, ◌==◌, drop}
use Rattle.std.specs.List.{position_or_len}
use Rattle.grain_program.proofs.lengths.colon_of.Given as goal

abbrev pub invariant-loop-at : goal.invariant-loop-at
invariant-loop-at l = position_or_len (λ byte. byte == 58) l.line ≡ l.at + position_or_len (λ byte. byte == 58) (drop l.at l.line)
