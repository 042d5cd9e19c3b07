use Rattle.std.proofs.Common.{rules}
use Rattle.std.proofs.lemmas.List.Sorted.{answers_always}
use Rattle.powerbox_match.proofs.Order.{values_ranked, in_order_from_sorted}
use Rattle.powerbox_match.proofs.sorted.in_order.Goals as goal

pub returns-clause-order : goal.returns-clause-order
returns-clause-order c =
    in_order_from_sorted _ (c.in_ok-sort_by.ensures.sorted _ values_ranked (answers_always _ _ _ (λ f a r g h. search rules)))
