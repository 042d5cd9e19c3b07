use Rattle.std.proofs.Common.{◌≡◌, ◌++◌, Bool, List, [], ◌∷◌, ℕ, false, cond, codes, decimal, ap, sym, ◌∙◌}
use Rattle.std.proofs.lemmas.Result.{on_ok_weaker}
use Rattle.bridge_headers.specs.Lines.{HeaderLine, line_text, lines_text}
use Rattle.bridge_headers.specs.Relay.{is_bodiless, length_lines}
use Rattle.bridge_headers.proofs.LineLemmas.{one_line}
use Rattle.bridge_headers.proofs.relay.put_length.Goals as goal

pub returns-else-is_bodiless : goal.returns-else-is_bodiless
returns-else-is_bodiless c =
    let line : HeaderLine = (codes "Content-Length", decimal c.args.length) in
    let body : is_bodiless c.args.status ≡ false = sym c.is_bodiless.ensures ∙ c.if-is_bodiless.false in
    let lines : length_lines c.args.status c.args.length ≡ line ∷ [] = ap (λ (b : Bool). cond b [] (line ∷ [])) body in
    on_ok_weaker c.put_line.result
    (λ (put : c.put_line.new.text.items ≡ c.args.text.now.items ++ line_text (codes "Content-Length", c.as_bytes.result.now)).
    let written : c.put_line.new.text.items ≡ c.args.text.now.items ++ line_text line =
    put ∙ ap (λ (n : List ℕ). c.args.text.now.items ++ line_text (codes "Content-Length", n)) (c.as_bytes.ensures.value ∙ c.format.ensures.text) in
    one_line _ _ line written ∙ ap (λ (ls : List HeaderLine). c.args.text.now.items ++ lines_text ls) (sym lines)) c.put_line.ensures
