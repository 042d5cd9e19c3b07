-- Which events fit a well-formed state: the laws that whoever makes events cites.
use Rattle.share_graph.specs.declared.event.Event.{Event}
use Rattle.share_graph.specs.declared.event.Event.TheVariants as event
use Rattle.share_graph.specs.declared.state.State.{State}
use Rattle.share_graph.specs.EventFits.{HasChanged, EventFits}
use Rattle.share_graph.specs.WellFormed.{IsWellFormed}
use Rattle.state_step.specs.NewRows.{IsNewAccount, IsNewLogin, IsNewApp, IsNewManifest, IsNewGrain, IsNewGrant, IsNewReference, IsNewSession, IsNewRun, IsNewHandle, IsNewClaim}

-- what is owed for an event: that its new row may be added, that the row which it changes is there, that its manifest may take the
-- old one's place, or that its moment is above the last one
abbrev pub IsDue : State → Event → Type 0
IsDue s (event.AccountAdded account) = IsNewAccount s account
IsDue s (event.AppAdded app) = IsNewApp s app
IsDue s (event.AppUpgraded p manifest) = IsNewManifest s p manifest
IsDue s (event.GrainAdded grain) = IsNewGrain s grain
IsDue s (event.GrantAdded grant) = IsNewGrant s grant
IsDue s (event.SavedAdded saved) = IsNewReference s saved
IsDue s (event.AdminSet a on) = HasChanged s (event.AdminSet a on)
IsDue s (event.EnabledSet a on) = HasChanged s (event.EnabledSet a on)
IsDue s (event.LoginSet a login) = IsNewLogin s a login
IsDue s (event.TrashedSet n on) = HasChanged s (event.TrashedSet n on)
IsDue s (event.GrantRevoked g) = HasChanged s (event.GrantRevoked g)
IsDue s (event.Claimed grant handle) = IsNewClaim s grant handle
IsDue s (event.SavedDropped v) = HasChanged s (event.SavedDropped v)
IsDue s (event.RunStarted run) = IsNewRun s run
IsDue s (event.RunStopped r) = HasChanged s (event.RunStopped r)
IsDue s (event.SessionOpened session) = IsNewSession s session
IsDue s (event.SessionClosed n) = HasChanged s (event.SessionClosed n)
IsDue s (event.HandleMade handle) = IsNewHandle s handle
IsDue s (event.Ticked m) = HasChanged s (event.Ticked m)

-- WHAT IS OWED SUFFICES: each such event fits a well-formed state.
abbrev pub DueFits : Type 0
DueFits = (s : State) (e : Event) → IsWellFormed s → IsDue s e → EventFits s e
