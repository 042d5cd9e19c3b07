use Rattle.std.proofs.Common.{List, ap, subst, sym}
use Rattle.desk_base.specs.Terms.{Event}
use Rattle.hub_core.specs.Sharing.{Sharing}
use Rattle.hub_core.specs.Ticking.{NeverBack}
use Rattle.hub_core.proofs.Ticking.{never_back_none}
use Rattle.shared_hub.specs.Since.{HasKept}
use Rattle.shared_hub.proofs.Since.{kept_none}
use Rattle.shared_hub.proofs.history.SharedHistory.new.Goals as goal

pub invariant_of-result : goal.invariant_of-result
invariant_of-result g c =
    let locked = c.args.locked in (
      ap (λ (sharing : Sharing _). sharing.start) (sym c.of.ensures),
      subst (λ (began : Sharing _). HasKept began.start began.holds locked.holds locked.history) (sym c.of.ensures)
          (subst (λ (history : List Event). HasKept locked.start locked.holds locked.holds history) (sym c.requires) (kept_none locked.start locked.holds)),
      subst (λ (began : Sharing _). NeverBack began.start locked.history) (sym c.of.ensures)
          (subst (λ (history : List Event). NeverBack locked.start history) (sym c.requires) (never_back_none locked.start)),
    )
