use Rattle.std.proofs.Common.{◌≡◌, ◌++◌, List, ℕ, true, codes, decimal, length, ap, sym, ◌∙◌}
use Rattle.std.specs.List.{list_any}
use Rattle.std.proofs.lemmas.Result.{on_ok_weaker}
use Rattle.host_base.specs.declared.request.Field.{Field}
use Rattle.bridge_headers.specs.Lines.{HeaderLine, line_text, lines_text}
use Rattle.bridge_headers.specs.Text.{client_lines, length_line}
use Rattle.bridge_headers.specs.Lines.{states_length}
use Rattle.bridge_headers.proofs.ClientLines.{length_sent}
use Rattle.bridge_headers.proofs.LineLemmas.{one_line}
use Rattle.bridge_headers.proofs.asked.put_length.Goals as goal

pub returns-then-has_length : goal.returns-then-has_length
returns-then-has_length c =
    let request = c.args.request.now in
    let sent : list_any states_length (client_lines request.fields) ≡ true =
    sym (c.has_length.ensures ∙ ap (λ (fields : List Field). list_any states_length (client_lines fields)) c.as_slice.ensures) ∙ c.if-has_length.true in
    let number : c.as_bytes.result.now ≡ decimal (length request.body) = c.as_bytes.ensures.value ∙ c.format-length.ensures.text ∙ ap decimal c.len.ensures in
    on_ok_weaker c.put_line.result
    (λ (put : c.put_line.new.text.items ≡ c.args.text.now.items ++ line_text (codes "Content-Length", c.as_bytes.result.now)).
    let line : c.put_line.new.text.items ≡ c.args.text.now.items ++ line_text (length_line request) = put ∙ ap (λ (n : List ℕ). c.args.text.now.items ++ line_text (codes "Content-Length", n)) number in
    one_line _ _ (length_line request) line ∙ ap (λ (lines : List HeaderLine). c.args.text.now.items ++ lines_text lines) (sym (length_sent request sent))) c.put_line.ensures
