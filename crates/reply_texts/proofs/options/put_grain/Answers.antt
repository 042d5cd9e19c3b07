use Rattle.std.proofs.Common.{◌++◌, decimal, ap, ◌∙◌}
use Rattle.reply_texts.proofs.Items.{grain_item, on_ok}
use Rattle.reply_texts.proofs.options.put_grain.Goals as goal

pub returns : goal.returns
returns c =
    on_ok c.put-2.result
    (grain_item c.args.text.now c.args.grain c.args.quality c.put.new.self c.put_decimal.new.text c.put_quality.new.text c.put-2.new.self c.in_ok-put.ensures.ok (c.in_ok-put_decimal.ensures ∙ ap (λ n. c.put.new.self ++ decimal n) c.from.ensures) c.in_ok-put_quality.ensures)
    c.put-2.ensures.ok
