use Rattle.std.proofs.Common.{◌≡◌, take, map}
use Rattle.httparse.specs.Spans.{header_bytes}
use Rattle.bridge_headers.specs.Relay.{stated}
use Rattle.bridge_headers.proofs.framing.stated_length.Given as goal

abbrev pub invariant-loop-field : goal.invariant-loop-field
invariant-loop-field l = l.found ≡ stated (map (header_bytes l.head) (take l.field-index l.fields))
