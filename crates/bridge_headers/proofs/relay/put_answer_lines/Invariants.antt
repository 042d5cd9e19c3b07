use Rattle.std.proofs.Common.{◌≡◌, ◌++◌, take, map}
use Rattle.httparse.specs.Spans.{header_bytes}
use Rattle.bridge_headers.specs.Lines.{lines_text}
use Rattle.bridge_headers.specs.Relay.{answer_lines}
use Rattle.bridge_headers.proofs.relay.put_answer_lines.Given as goal

abbrev pub invariant-loop-field : goal.invariant-loop-field
invariant-loop-field l = l.text.items ≡ l.initial.text.items ++ lines_text (answer_lines (map (header_bytes l.head) (take l.field-index l.fields)))
