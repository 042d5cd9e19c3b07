use Rattle.std.proofs.Common.{◌≡◌, ◌++◌, take}
use Rattle.bridge_headers.specs.Lines.{lower}
use Rattle.bridge_headers.proofs.lines.put_lower.Given as goal

abbrev pub invariant-loop-byte : goal.invariant-loop-byte
invariant-loop-byte l = l.text.items ≡ l.initial.text.items ++ lower (take l.byte-index l.name)
