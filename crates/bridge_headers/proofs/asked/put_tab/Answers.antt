use Rattle.std.proofs.Common.{◌≡◌, ◌++◌, [], ◌∷◌, codes}
use Rattle.std.proofs.lemmas.Result.{on_ok_weaker}
use Rattle.bridge_headers.proofs.LineLemmas.{one_line, more_line}
use Rattle.bridge_headers.specs.Lines.{HeaderLine, line_text}
use Rattle.bridge_headers.specs.Text.{number_text}
use Rattle.bridge_headers.proofs.asked.put_tab.Goals as goal

pub returns-in_ok-put_line-in-Some : goal.returns-in_ok-put_line-in-Some
returns-in_ok-put_line-in-Some c =
    let tab : HeaderLine = (codes "X-Sandstorm-Tab-Id", number_text c.in-Some.mark.tab) in
    let session : HeaderLine = (codes "X-Sandstorm-Session-Id", number_text c.in-Some.mark.session.0) in
    let first : c.put_line.new.text.items ≡ c.args.text.now.items ++ line_text tab = cc (c.in_ok-put_line-in-Some.ensures, c.number_digits.ensures) in
    rw c.in-Some.is
    (on_ok_weaker c.put_line-in-Some.result
    (λ (second : c.put_line-in-Some.new.text.items ≡ c.put_line.new.text.items ++ line_text (codes "X-Sandstorm-Session-Id", c.number_digits-session.result)).
    let then : c.put_line-in-Some.new.text.items ≡ c.put_line.new.text.items ++ line_text session = cc (second, c.number_digits-session.ensures, c.from.ensures) in
    more_line _ _ _ (tab ∷ []) session (one_line _ _ tab first) then) c.put_line-in-Some.ensures)
