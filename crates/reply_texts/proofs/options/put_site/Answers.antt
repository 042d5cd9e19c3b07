use Rattle.std.proofs.Common.{◌++◌, decimal, ap, ◌∙◌}
use Rattle.reply_texts.proofs.Items.{site_item, on_ok}
use Rattle.reply_texts.proofs.options.put_site.Goals as goal

pub returns : goal.returns
returns c =
    on_ok c.put-3.result
    (site_item c.args.text.now c.args.tag c.args.item c.args.quality c.put.new.self c.put_decimal.new.text c.put_quality.new.text c.put-2.new.self c.put_decimal-2.new.text c.put-3.new.self c.in_ok-put.ensures.ok (c.in_ok-put_decimal.ensures ∙ ap (λ n. c.put.new.self ++ decimal n) c.from.ensures) c.in_ok-put_quality.ensures c.in_ok-put-2.ensures.ok c.in_ok-put_decimal-2.ensures)
    c.put-3.ensures.ok
