-- The grant that an event adds.
use Rattle.std.specs.Prelude.{◌≡◌, true, false, Option, Some, None}
use Rattle.app_manifest.specs.Upgrade.{GivesNoLess}
use Rattle.share_graph.specs.declared.event.Event.{Event}
use Rattle.share_graph.specs.declared.event.Event.TheVariants as event
use Rattle.share_graph.specs.declared.grants.Grant.{Grant}
use Rattle.share_graph.specs.declared.rows.App.{App}
use Rattle.share_graph.specs.declared.state.Tables.{Tables}
use Rattle.share_graph.specs.Rows.{IsApp}
use Rattle.region_access.specs.declared.fed_grant.NewGrant.{NewGrant}
use Rattle.region_access.specs.NewEdges.{IsRowOf}

-- the grant that the event adds, or none
abbrev pub grant_added : Event → Option Grant
grant_added (event.GrantAdded grant) = Some grant
grant_added (event.Claimed grant handle) = Some grant
grant_added (event.AccountAdded account) = None
grant_added (event.AppAdded app) = None
grant_added (event.AppUpgraded p manifest) = None
grant_added (event.GrainAdded grain) = None
grant_added (event.SavedAdded saved) = None
grant_added (event.AdminSet a on) = None
grant_added (event.EnabledSet a on) = None
grant_added (event.LoginSet a login) = None
grant_added (event.TrashedSet n on) = None
grant_added (event.GrantRevoked g) = None
grant_added (event.SavedDropped v) = None
grant_added (event.RunStarted run) = None
grant_added (event.RunStopped r) = None
grant_added (event.SessionOpened session) = None
grant_added (event.SessionClosed n) = None
grant_added (event.HandleMade handle) = None
grant_added (event.Ticked m) = None

-- Nothing can be lost by the event: no grant is revoked or ends, no grain goes into the trash, no account is disabled or no admin
-- any more, and an application's new manifest gives no less than the one before.
abbrev pub OnlyAdds : Tables → Event → Type 0
OnlyAdds t (event.GrantRevoked g) = ⊥
OnlyAdds t (event.TrashedSet n on) = on ≡ false
OnlyAdds t (event.AdminSet a on) = on ≡ true
OnlyAdds t (event.EnabledSet a on) = on ≡ true
OnlyAdds t (event.Ticked m) = ⊥
OnlyAdds t (event.AppUpgraded p manifest) = (app : App) → IsApp t p app → GivesNoLess app.manifest manifest
OnlyAdds t _ = Unit {0}

-- there is no grant and no new one, or the new one is the grant's: of its number, its node, the nodes that feed it and what it
-- hangs on
abbrev pub IsNewOf : Option Grant → Option NewGrant → Type 0
IsNewOf None None = Unit {0}
IsNewOf None (Some one) = ⊥
IsNewOf (Some grant) None = ⊥
IsNewOf (Some grant) (Some one) = (one.num ≡ grant.num) × IsRowOf one grant
