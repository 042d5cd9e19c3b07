use Rattle.std.proofs.Common.{inl, inr, refl}
use Rattle.std.proofs.lemmas.Result.{IfOk-weaker}
use Rattle.desk_orders.proofs.sites.found_of.Goals as goal

pub returns-in-Ok : goal.returns-in-Ok
returns-in-Ok g c = rw (← c.order.view_is) (rw c.in-Choose.is
    (IfOk-weaker c.found_of_offer.result _ _ (λ found is. inl (c.in-Ok.field-0.now, c.in-Ok.ensures, is)) c.found_of_offer.ensures))

pub returns-in-Err : goal.returns-in-Err
returns-in-Err g c = rw (← c.order.view_is) (rw c.in-Choose.is (inr ((c.in-Err.field-0, c.in-Err.ensures), refl)))
