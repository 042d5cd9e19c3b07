-- An event with the room that it takes.
use Rattle.std.specs.Prelude.{◌≡◌, length}
use Rattle.share_graph.specs.declared.event.Event.{Event}
use Rattle.share_graph.specs.declared.event.Event.TheVariants as event
use Rattle.share_graph.specs.declared.state.State.{State}
use Rattle.state_step.specs.declared.staged.Staged.{Staged}
use Rattle.state_step.specs.declared.staged.Staged.TheVariants as staged

-- the event alone
abbrev pub event_of : Staged → Event
event_of (staged.AccountAdded account room) = event.AccountAdded account
event_of (staged.AppAdded app room) = event.AppAdded app
event_of (staged.AppUpgraded p manifest) = event.AppUpgraded p manifest
event_of (staged.GrainAdded grain room) = event.GrainAdded grain
event_of (staged.GrantAdded grant room) = event.GrantAdded grant
event_of (staged.SavedAdded saved room) = event.SavedAdded saved
event_of (staged.RunStarted run room) = event.RunStarted run
event_of (staged.SessionOpened session room) = event.SessionOpened session
event_of (staged.HandleMade handle room) = event.HandleMade handle
event_of (staged.AdminSet a on) = event.AdminSet a on
event_of (staged.EnabledSet a on) = event.EnabledSet a on
event_of (staged.LoginSet a login) = event.LoginSet a login
event_of (staged.TrashedSet n on) = event.TrashedSet n on
event_of (staged.GrantRevoked g) = event.GrantRevoked g
event_of (staged.SavedDropped v) = event.SavedDropped v
event_of (staged.RunStopped r) = event.RunStopped r
event_of (staged.SessionClosed n) = event.SessionClosed n
event_of (staged.Ticked m) = event.Ticked m
event_of (staged.Claimed grant room handle more) = event.Claimed grant handle

-- the room is beside the rows of this state
abbrev pub HasRoomFor : State → Staged → Type 0
HasRoomFor s (staged.AccountAdded account room) = room ≡ length s.tables.accounts
HasRoomFor s (staged.AppAdded app room) = room ≡ length s.tables.apps
HasRoomFor s (staged.GrainAdded grain room) = room ≡ length s.tables.grains
HasRoomFor s (staged.GrantAdded grant room) = room ≡ length s.tables.grants
HasRoomFor s (staged.SavedAdded saved room) = room ≡ length s.tables.saved
HasRoomFor s (staged.RunStarted run room) = room ≡ length s.runs
HasRoomFor s (staged.SessionOpened session room) = room ≡ length s.sessions
HasRoomFor s (staged.HandleMade handle room) = room ≡ length s.handles
HasRoomFor s (staged.AppUpgraded p manifest) = Unit {0}
HasRoomFor s (staged.AdminSet a on) = Unit {0}
HasRoomFor s (staged.EnabledSet a on) = Unit {0}
HasRoomFor s (staged.LoginSet a login) = Unit {0}
HasRoomFor s (staged.TrashedSet n on) = Unit {0}
HasRoomFor s (staged.GrantRevoked g) = Unit {0}
HasRoomFor s (staged.SavedDropped v) = Unit {0}
HasRoomFor s (staged.RunStopped r) = Unit {0}
HasRoomFor s (staged.SessionClosed n) = Unit {0}
HasRoomFor s (staged.Ticked m) = Unit {0}
HasRoomFor s (staged.Claimed grant room handle more) = (room ≡ length s.tables.grants) × (more ≡ length s.handles)
