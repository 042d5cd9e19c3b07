-- The row of the tables that an event adds or changes.
use Rattle.std.specs.Prelude.{ℕ, Option, Some, None}
use Rattle.share_graph.specs.declared.event.Event.{Event}
use Rattle.share_graph.specs.declared.event.Event.TheVariants as event
use Rattle.share_graph.specs.declared.fault.Kind.{Kind}
use Rattle.share_graph.specs.declared.fault.Kind.TheVariants as kind

-- its kind and its number, or none where an event leaves the tables as they are
abbrev pub changed_row : Event → Option (Kind × ℕ)
changed_row (event.AccountAdded account) = Some (kind.Account, account.num.0)
changed_row (event.AppAdded app) = Some (kind.App, app.num.0)
changed_row (event.AppUpgraded p manifest) = Some (kind.App, p.0)
changed_row (event.GrainAdded grain) = Some (kind.Grain, grain.num.0)
changed_row (event.GrantAdded grant) = Some (kind.Grant, grant.num.0)
changed_row (event.SavedAdded saved) = Some (kind.Saved, saved.num.0)
changed_row (event.AdminSet a on) = Some (kind.Account, a.0)
changed_row (event.EnabledSet a on) = Some (kind.Account, a.0)
changed_row (event.LoginSet a login) = Some (kind.Account, a.0)
changed_row (event.TrashedSet n on) = Some (kind.Grain, n.0)
changed_row (event.GrantRevoked g) = Some (kind.Grant, g.0)
changed_row (event.Claimed grant handle) = Some (kind.Grant, grant.num.0)
changed_row (event.SavedDropped v) = Some (kind.Saved, v.0)
changed_row (event.RunStarted run) = None
changed_row (event.RunStopped r) = None
changed_row (event.SessionOpened session) = None
changed_row (event.SessionClosed n) = None
changed_row (event.HandleMade handle) = None
changed_row (event.Ticked m) = None
