use Rattle.std.proofs.Common.{◌≡◌, ◌+◌, ◌++◌, List, [], ◌∷◌, ℕ, get_or, take, ap, ◌∙◌}
use Rattle.httparse.specs.Spans.{header_bytes}
use Rattle.bridge_headers.specs.Lines.{HeaderLine, lines_text}
use Rattle.bridge_headers.specs.Relay.{answer_lines}
use Rattle.bridge_headers.proofs.CookieLemmas.{answer_next}
use Rattle.bridge_headers.proofs.FramingLemmas.{blank, lines_at, lines_more}
use Rattle.bridge_headers.proofs.relay.put_answer_lines.Goals as goal

pub loop-field-preserved : goal.loop-field-preserved
loop-field-preserved c =
    let head = c.args.head.now in
    let fields = c.args.fields.now in
    let i = c.loop-field.field-index in
    let line : HeaderLine = header_bytes head (get_or fields i blank) in
    let put : c.put_answer_line.new.text.items ≡ c.loop-field.text.items ++ lines_text (answer_lines (line ∷ [])) =
    c.in_ok-put_answer_line.ensures ∙ ap (λ (name : List ℕ). c.loop-field.text.items ++ lines_text (answer_lines ((name, c.of-value.result.now) ∷ []))) c.of-name.ensures
    ∙ ap (λ (value : List ℕ). c.loop-field.text.items ++ lines_text (answer_lines ((line.0, value) ∷ []))) c.of-value.ensures in
    answer_next _ _ _ (lines_at head (take i fields)) (lines_at head (take (i + 1) fields)) line (lines_more head fields i c.loop-field-test.true) c.loop-field.invariant put
