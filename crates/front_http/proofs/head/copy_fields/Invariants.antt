use Rattle.std.proofs.Common.{◌≡◌, map, take}
use Rattle.front_http.specs.Spans.{field_at}
use Rattle.front_http.proofs.head.copy_fields.Given as goal

abbrev pub invariant-loop-span : goal.invariant-loop-span
invariant-loop-span l = l.fields.items ≡ map (field_at l.bytes) (take l.span-index l.spans)
