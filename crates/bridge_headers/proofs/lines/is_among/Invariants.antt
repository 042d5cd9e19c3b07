use Rattle.std.proofs.Common.{◌≡◌, take, map, false}
use Rattle.std.specs.List.{list_any}
use Rattle.bridge_headers.specs.Lines.{same_name}
use Rattle.bridge_headers.proofs.lines.is_among.Given as goal

abbrev pub invariant-loop-listed : goal.invariant-loop-listed
invariant-loop-listed l = list_any (same_name l.name) (map (λ listed. listed.now) (take l.listed-index l.names)) ≡ false
