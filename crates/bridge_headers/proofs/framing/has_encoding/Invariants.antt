use Rattle.std.proofs.Common.{◌≡◌, take, map, false}
use Rattle.std.specs.List.{list_any}
use Rattle.httparse.specs.Spans.{header_bytes}
use Rattle.bridge_headers.specs.Relay.{states_encoding}
use Rattle.bridge_headers.proofs.framing.has_encoding.Given as goal

abbrev pub invariant-loop-field : goal.invariant-loop-field
invariant-loop-field l = list_any states_encoding (map (header_bytes l.head) (take l.field-index l.fields)) ≡ false
