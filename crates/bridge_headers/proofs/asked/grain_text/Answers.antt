use Rattle.std.proofs.Common.{◌≡◌, ◌++◌, List, ℕ, ap, ◌∙◌}
use Rattle.host_base.specs.declared.request.Field.{Field}
use Rattle.bridge_headers.specs.Lines.{lines_text, passed}
use Rattle.bridge_headers.specs.Text.{client_lines, request_line, request_names}
use Rattle.bridge_headers.proofs.ClientLines.{parts}
use Rattle.bridge_headers.proofs.Listed.{only_listed}
use Rattle.bridge_headers.proofs.asked.grain_text.Goals as goal

pub returns-clause-text : goal.returns-clause-text
returns-clause-text c =
    let request = c.args.request.now in
    let line : c.put_request_line.new.text.items ≡ request_line request = c.in_ok-put_request_line.ensures ∙ ap (λ (xs : List ℕ). xs ++ request_line request) c.in_ok-text.ensures.items in
    let client : c.put_client_lines.new.text.items ≡ c.put_server_lines.new.text.items ++ lines_text (passed request_names (client_lines request.fields)) =
    c.in_ok-put_client_lines.ensures ∙ ap (λ (fields : List Field). c.put_server_lines.new.text.items ++ lines_text (passed request_names (client_lines fields))) c.as_slice.ensures in
    let body : c.put-2.new.text.items ≡ c.put.new.text.items ++ request.body = c.in_ok-put-2.ensures ∙ ap (λ (xs : List ℕ). c.put.new.text.items ++ xs) c.as_slice-2.ensures.value in
    parts c.args.permit.now request _ _ _ _ _ _ line c.in_ok-put_server_lines.ensures client c.in_ok-put_length.ensures c.in_ok-put.ensures body

pub returns-clause-listed : goal.returns-clause-listed
returns-clause-listed c = only_listed c.args.permit.now c.args.request.now _ (returns-clause-text c)
