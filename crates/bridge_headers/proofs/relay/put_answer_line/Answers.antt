use Rattle.std.proofs.Common.{sym, ◌∙◌}
use Rattle.bridge_headers.specs.Lines.{HeaderLine}
use Rattle.bridge_headers.proofs.CookieLemmas.{kept_line}
use Rattle.bridge_headers.proofs.relay.put_answer_line.Goals as goal

pub returns-else-is_foreign_cookie : goal.returns-else-is_foreign_cookie
returns-else-is_foreign_cookie c =
    let line : HeaderLine = (c.args.name.now, c.args.value.now) in
    let own = kept_line line (sym c.is_foreign_cookie.ensures ∙ c.if-is_foreign_cookie.false) in
    rw own c.put_passed.ensures
