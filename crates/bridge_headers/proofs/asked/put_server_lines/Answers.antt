use Rattle.std.proofs.Common.{◌≡◌, ◌++◌, [], ◌∷◌, codes}
use Rattle.std.proofs.lemmas.Result.{on_ok_weaker}
use Rattle.bridge_headers.specs.Lines.{HeaderLine, line_text}
use Rattle.bridge_headers.specs.Text.{permission_line, shown_lines, tab_lines}
use Rattle.bridge_headers.proofs.LineLemmas.{one_line, more_line, more_lines}
use Rattle.bridge_headers.proofs.asked.put_server_lines.Goals as goal

pub returns : goal.returns
returns c =
    let permit = c.args.permit.now in
    let host : HeaderLine = (codes "Host", codes "sandbox") in
    let close : HeaderLine = (codes "Connection", codes "close") in
    let first = one_line _ _ host c.in_ok-put_line.ensures in
    let second = more_line _ _ _ (host ∷ []) close first c.in_ok-put_line-2.ensures in
    let third = more_lines _ _ _ (host ∷ close ∷ []) (tab_lines permit.tab) second c.in_ok-put_tab.ensures in
    let fourth = more_lines _ _ _ (host ∷ close ∷ tab_lines permit.tab) (shown_lines permit.shown) third c.in_ok-put_shown.ensures in
    on_ok_weaker c.put_line-3.result
    (λ (put : c.put_line-3.new.text.items ≡ c.put_shown.new.text.items ++ line_text (codes "X-Sandstorm-Permissions", c.as_slice-2.result.now)).
    let last : c.put_line-3.new.text.items ≡ c.put_shown.new.text.items ++ line_text (permission_line permit) = cc (put, c.as_slice-2.ensures.value, c.in_ok-names.ensures, c.as_slice.ensures) in
    more_line _ _ _ (host ∷ close ∷ tab_lines permit.tab ++ shown_lines permit.shown) (permission_line permit) fourth last) c.put_line-3.ensures
