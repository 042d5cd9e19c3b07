use Rattle.std.proofs.Common.{◌≡◌, take, true}
use Rattle.std.specs.Str.{all_ascii_digits}
use Rattle.std.specs.Str.Parse.{digits_value}
use Rattle.bridge_headers.proofs.framing.length_of.Given as goal

abbrev pub invariant-loop-byte : goal.invariant-loop-byte
invariant-loop-byte l = record { digits : all_ascii_digits (take l.byte-index l.value) ≡ true; number : l.number ≡ digits_value 10 (take l.byte-index l.value) }
