use Rattle.reply_texts.proofs.Items.{items, on_ok}
use Rattle.reply_texts.proofs.options.put_items.Goals as goal

pub returns-in_ok-put_item-in-len1-up : goal.returns-in_ok-put_item-in-len1-up
returns-in_ok-put_item-in-len1-up c =
    on_ok c.put_others.result
    (items c.args.text.now c.args.listed.now _ c.put_item.new.text c.put_others.new.text c.in-len1-up.len_at_least c.in_ok-put_item-in-len1-up.ensures)
    c.put_others.ensures
