use Rattle.std.proofs.Common.{◌≡◌, ◌++◌, take}
use Rattle.bridge_headers.specs.Lines.{lines_text, passed}
use Rattle.bridge_headers.specs.Text.{client_lines, request_names}
use Rattle.bridge_headers.proofs.asked.put_client_lines.Given as goal

abbrev pub invariant-loop-field : goal.invariant-loop-field
invariant-loop-field l = l.text.items ≡ l.initial.text.items ++ lines_text (passed request_names (client_lines (take l.field-index l.fields)))
