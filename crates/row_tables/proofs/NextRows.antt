-- The row that a fitting event adds has the next number.
use Rattle.std.proofs.Common.{◌≡◌, ℕ, ◌+◌, List, [], ◌∷◌, ◌++◌, length}
use Rattle.share_graph.specs.declared.event.Event.{Event}
use Rattle.share_graph.specs.declared.event.Event.TheVariants as event
use Rattle.share_graph.specs.declared.state.State.{State}
use Rattle.share_graph.specs.EventFits.{EventFits}
use Rattle.share_graph.specs.WellFormed.{AreNumbered}
use Rattle.row_tables.specs.RowAfter.{AddsNext}
use Rattle.row_tables.proofs.ListRows.{last_there}

next : {X : Type 0} (num : X → ℕ) (xs : List X) (x : X) → AreNumbered num (xs ++ x ∷ []) → num x ≡ length xs + 1
next num xs x h = h (length xs) x (last_there xs x)

pub fits_next : (s : State) (e : Event) → EventFits s e → AddsNext s.tables e
fits_next s (event.AccountAdded account) h = next (λ a. a.num.0) s.tables.accounts account h.formed.numbered.accounts
fits_next s (event.AppAdded app) h = next (λ a. a.num.0) s.tables.apps app h.formed.numbered.apps
fits_next s (event.GrainAdded grain) h = next (λ g. g.num.0) s.tables.grains grain h.formed.numbered.grains
fits_next s (event.GrantAdded grant) h = next (λ g. g.num.0) s.tables.grants grant h.formed.numbered.grants
fits_next s (event.Claimed grant handle) h = next (λ g. g.num.0) s.tables.grants grant h.formed.numbered.grants
fits_next s (event.SavedAdded saved) h = next (λ v. v.num.0) s.tables.saved saved h.formed.numbered.saved
fits_next s (event.AppUpgraded p manifest) h = tt
fits_next s (event.AdminSet a on) h = tt
fits_next s (event.EnabledSet a on) h = tt
fits_next s (event.LoginSet a login) h = tt
fits_next s (event.TrashedSet n on) h = tt
fits_next s (event.GrantRevoked g) h = tt
fits_next s (event.SavedDropped v) h = tt
fits_next s (event.RunStarted run) h = tt
fits_next s (event.RunStopped r) h = tt
fits_next s (event.SessionOpened session) h = tt
fits_next s (event.SessionClosed n) h = tt
fits_next s (event.HandleMade handle) h = tt
fits_next s (event.Ticked m) h = tt
