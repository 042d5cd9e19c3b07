use Rattle.std.proofs.Common.{◌≡◌, take, false}
use Rattle.std.specs.List.{list_any}
use Rattle.bridge_headers.specs.Text.{client_lines}
use Rattle.bridge_headers.specs.Lines.{states_length}
use Rattle.bridge_headers.proofs.asked.has_length.Given as goal

abbrev pub invariant-loop-field : goal.invariant-loop-field
invariant-loop-field l = list_any states_length (client_lines (take l.field-index l.fields)) ≡ false
