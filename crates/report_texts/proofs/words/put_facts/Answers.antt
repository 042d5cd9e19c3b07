use Rattle.std.proofs.Common.{◌++◌, string_bytes, ap, ◌∙◌}
use Rattle.std.proofs.lemmas.Result.{on_ok_weaker}
use Rattle.report_texts.proofs.Joined.{behind, entry_first}
use Rattle.report_texts.proofs.words.put_facts.Goals as goal

pub returns-in_ok-put : goal.returns-in_ok-put
returns-in_ok-put c =
    let before = string_bytes c.put.new.text in
    on_ok_weaker c.put_others.result
    (λ others. entry_first (string_bytes c.args.text.now) c.args.line.now before (string_bytes c.put_others.new.text) c.if-line.true c.in_ok-put.ensures (others ∙ ap (λ names. before ++ behind names) c.as_slice-names.ensures))
    c.put_others.ensures
