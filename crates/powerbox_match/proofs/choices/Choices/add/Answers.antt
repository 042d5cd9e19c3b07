use Rattle.std.proofs.Common.{◌≡◌, ap, sym, ◌∙◌, List, insert}
use Rattle.powerbox_match.specs.declared.choices.Choice.{Choice}
use Rattle.powerbox_match.specs.Choices.{insertion}
use Rattle.powerbox_match.proofs.Insertion.{is_in_order-insertion}
use Rattle.powerbox_match.proofs.choices.Choices.add.Goals as goal

pub invariant_of-self-2 : goal.invariant_of-self-2
invariant_of-self-2 c =
    let choice : Choice = record { num = c.args.num; quality = c.in-Some.quality } in
    let old = c.self.inside.in_order.items in
    let placed : c.insert.new.self.items ≡ insertion choice old =
    c.in_ok-insert.ensures.items ∙ ap (λ (cs : List Choice). insert cs c.place_in-place.result choice) (sym c.deref.ensures.value) ∙ c.place_in-place.ensures.place ∙ ap (insertion choice) c.deref.ensures.value in
    rw placed (is_in_order-insertion choice old (rw c.self.view_is c.requires) c.self.invariant)
