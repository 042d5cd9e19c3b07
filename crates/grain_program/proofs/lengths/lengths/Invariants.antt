use Rattle.std.proofs.Common.{◌≡◌, ◌++◌, map, drop}
use Rattle.std.specs.List.{filter_map}
use Rattle.std.specs.Str.Lines.{strip_carriage_return}
use Rattle.grain_program.specs.Stated.{length_in, lengths_of}
use Rattle.grain_program.proofs.lengths.lengths.Given as goal

abbrev pub invariant-loop-line : goal.invariant-loop-line
invariant-loop-line l = map (λ value. value.now) l.values.items ++ filter_map length_in (map strip_carriage_return (map (λ line. line.now) (drop l.line-index l.line-items))) ≡ lengths_of l.head
