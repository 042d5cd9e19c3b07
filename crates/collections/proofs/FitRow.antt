-- The change of the command fits.
use Rattle.std.proofs.Common.{false, None}
use Rattle.desk_base.specs.Fitting.{RowFits}
use Rattle.desk_base.specs.Terms.{Account, AccountId, Caller, GrainId, Grant, GrantId, IsWellFormed, State}
use Rattle.desk_base.specs.Steps.{Step}
use Rattle.desk_base.proofs.FitForms.{access_fits, found_fits, some_fits, unless_fits}
use Rattle.share_desk.proofs.FitRows.{share_fits}
use Rattle.collections.specs.Commands.{by_curator, Collect, Missing}
use Rattle.collections.specs.Members.{member_needs}

module _ (s : State) (who : Caller) (c : GrainId) (g : GrantId) where
  pub curator_fits : (Rest : Account → Grant → Step → Type 0) → ((account : Account) (link : Grant) → RowFits s false (Rest account link)) → RowFits s false (by_curator s who c g Rest)
  curator_fits Rest rest =
      some_fits s tt λ account is.
      unless_fits s tt λ enabled.
      found_fits s tt λ grain there.
      access_fits s (
      found_fits s tt λ link row.
      unless_fits s tt λ bearers.
      unless_fits s tt λ given.
      rest account link)

pub collect_fits : (s : State) → IsWellFormed s → (who : Caller) (c : GrainId) (g : GrantId) (u : AccountId) → RowFits s false (Collect s who c g u)
collect_fits s formed who c g u =
    curator_fits s who c g _ λ account link.
    found_fits s tt λ member known.
    unless_fits s tt λ owed.
    share_fits s formed who link.grain u link.assignment (member_needs c g u) None
