-- When an event fits a state.
use Rattle.std.specs.Prelude.{◌<◌}
use Rattle.app_manifest.specs.Upgrade.{StillFits}
use Rattle.share_graph.specs.declared.event.Event.{Event}
use Rattle.share_graph.specs.declared.event.Event.TheVariants as event
use Rattle.share_graph.specs.declared.rows.App.{App}
use Rattle.share_graph.specs.declared.rows.Saved.{Saved}
use Rattle.share_graph.specs.declared.sessions.Run.{Run}
use Rattle.share_graph.specs.declared.sessions.Session.{Session}
use Rattle.share_graph.specs.declared.state.State.{State}
use Rattle.share_graph.specs.History.{after}
use Rattle.share_graph.specs.Known.{HasAccount, HasGrain, HasGrant}
use Rattle.share_graph.specs.Rows.{IsApp, IsSaved, IsSession, IsRun}
use Rattle.share_graph.specs.WellFormed.{IsWellFormed}

-- the row that the event changes is there; a row that it adds needs none; what fitted an application's manifest fits its new one;
-- and a tick goes on from the moment
abbrev pub HasChanged : State → Event → Type 0
HasChanged s (event.AdminSet a on) = HasAccount s.tables a
HasChanged s (event.EnabledSet a on) = HasAccount s.tables a
HasChanged s (event.LoginSet a login) = HasAccount s.tables a
HasChanged s (event.AppUpgraded p manifest) = (app : App) × IsApp s.tables p app × StillFits app.manifest manifest
HasChanged s (event.TrashedSet n on) = HasGrain s.tables n
HasChanged s (event.GrantRevoked g) = HasGrant s.tables g
HasChanged s (event.SavedDropped v) = (saved : Saved) × IsSaved s.tables v saved
HasChanged s (event.RunStopped r) = (run : Run) × IsRun s r run
HasChanged s (event.SessionClosed n) = (session : Session) × IsSession s n session
HasChanged s (event.AccountAdded account) = Unit {0}
HasChanged s (event.AppAdded app) = Unit {0}
HasChanged s (event.GrainAdded grain) = Unit {0}
HasChanged s (event.GrantAdded grant) = Unit {0}
HasChanged s (event.SavedAdded saved) = Unit {0}
HasChanged s (event.Claimed grant handle) = Unit {0}
HasChanged s (event.RunStarted run) = Unit {0}
HasChanged s (event.SessionOpened session) = Unit {0}
HasChanged s (event.HandleMade handle) = Unit {0}
HasChanged s (event.Ticked m) = s.tables.moment < m

-- An event fits a state: the row that it changes is there, or its moment is above the last one, and the state after it is
-- well formed.
pub record EventFits (s : State) (e : Event) : Type 0 where
  pub changed : HasChanged s e
  pub formed : IsWellFormed (after s e)
