use Rattle.std.proofs.Common.{◌≡◌, ◌++◌, [], ◌∷◌, codes}
use Rattle.std.proofs.lemmas.Result.{on_ok_weaker}
use Rattle.bridge_headers.proofs.LineLemmas.{one_line, more_line}
use Rattle.bridge_headers.specs.Lines.{HeaderLine, line_text}
use Rattle.bridge_headers.specs.Text.{name_text, user_id_text}
use Rattle.bridge_headers.proofs.asked.put_shown.Goals as goal

pub returns-in-Anonymous : goal.returns-in-Anonymous
returns-in-Anonymous c =
    let line : HeaderLine = (codes "X-Sandstorm-Username", codes "Anonymous%20User") in
    rw c.in-Anonymous.is (on_ok_weaker c.put_line.result (λ (put : c.put_line.new.text.items ≡ c.args.text.now.items ++ line_text line). one_line _ _ line put) c.put_line.ensures)

pub returns-in_ok-put_line-in-Account-2 : goal.returns-in_ok-put_line-in-Account-2
returns-in_ok-put_line-in-Account-2 c =
    let name : HeaderLine = (codes "X-Sandstorm-Username", name_text c.in-Account.name) in
    let user : HeaderLine = (codes "X-Sandstorm-User-Id", user_id_text c.in-Account.num) in
    let handle : HeaderLine = (codes "X-Sandstorm-Preferred-Handle", c.in-Account.handle) in
    let first : c.put_line-in-Account.new.text.items ≡ c.args.text.now.items ++ line_text name =
    cc (c.in_ok-put_line-in-Account.ensures, c.as_bytes.ensures.value, c.in_ok-name-in-Account.ensures, c.as_str.ensures.text) in
    let second : c.put_line-in-Account-2.new.text.items ≡ c.put_line-in-Account.new.text.items ++ line_text user = cc (c.in_ok-put_line-in-Account-2.ensures, c.user_id.ensures) in
    rw c.in-Account.is
    (on_ok_weaker c.put_line-in-Account-3.result
    (λ (third : c.put_line-in-Account-3.new.text.items ≡ c.put_line-in-Account-2.new.text.items ++ line_text (codes "X-Sandstorm-Preferred-Handle", c.as_bytes-in-Account.result.now)).
    let last : c.put_line-in-Account-3.new.text.items ≡ c.put_line-in-Account-2.new.text.items ++ line_text handle = cc (third, c.as_bytes-in-Account.ensures.value, c.as_str-handle.ensures.text) in
    more_line _ _ _ (name ∷ user ∷ []) handle (more_line _ _ _ (name ∷ []) user (one_line _ _ name first) second) last) c.put_line-in-Account-3.ensures)
