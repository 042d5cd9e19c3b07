use Rattle.std.proofs.Common.{◌++◌, string_bytes, ap, ◌∙◌}
use Rattle.std.proofs.lemmas.Result.{on_ok_weaker}
use Rattle.report_texts.proofs.Joined.{joined_names}
use Rattle.report_texts.proofs.words.put_joined.Goals as goal

pub returns-in_ok-put-in-len1-up : goal.returns-in_ok-put-in-len1-up
returns-in_ok-put-in-len1-up c =
    let old = string_bytes c.args.text.now in
    on_ok_weaker c.put_others.result
    (joined_names old c.args.names.now c.first-item.result (string_bytes c.put-in-len1-up.new.text) (string_bytes c.put_others.new.text) c.in-len1-up.len_at_least (c.in_ok-put-in-len1-up.ensures ∙ ap (λ name. old ++ name) (c.as_str.ensures.text ∙ c.first-item.is)))
    c.put_others.ensures
