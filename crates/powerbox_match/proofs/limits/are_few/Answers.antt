use Rattle.std.proofs.Common.{leb, sym, ap}
use Rattle.powerbox_match.proofs.Within.{item_count-length}
use Rattle.powerbox_match.proofs.limits.are_few.Goals as goal

pub returns : goal.returns
returns c = ap (λ n. leb n 1000) (sym (item_count-length c.args.items.now))
