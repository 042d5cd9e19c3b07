-- THE LAW OF A CHANGE: an event that fits touches nothing outside what its seeds reach, and adds the one grant that it says.
use Rattle.std.proofs.Common.{◌≡◌, ◌↔◌, List, [], ◌∷◌, Option, Contains, refl, inl, inr}
use Rattle.share_graph.specs.declared.event.Event.{Event}
use Rattle.share_graph.specs.declared.event.Event.TheVariants as event
use Rattle.share_graph.specs.declared.facts.Node.{Node}
use Rattle.share_graph.specs.declared.facts.Node.TheVariants as node
use Rattle.share_graph.specs.declared.grants.Grant.{Grant}
use Rattle.share_graph.specs.declared.rows.Grain.{Grain}
use Rattle.share_graph.specs.declared.state.State.{State}
use Rattle.share_graph.specs.declared.state.Tables.{Tables}
use Rattle.share_graph.specs.Coherent.{IsCoherent}
use Rattle.share_graph.specs.EventFits.{HasChanged, EventFits}
use Rattle.share_graph.specs.History.{after}
use Rattle.share_graph.specs.Nodes.{node_of}
use Rattle.share_graph.specs.Region.{seed}
use Rattle.share_graph.specs.Setting.{with_admin, with_enabled, with_login, with_manifest}
use Rattle.share_graph.specs.WellFormed.{IsNumbered, IsWellFormed}
use Rattle.share_graph.proofs.Coherence.{coherent}
use Rattle.state_step.proofs.Each.{push_old_row}
use Rattle.region_work.specs.Prepared.{LeadsNowhere, Touches}
use Rattle.region_access.specs.declared.fed_grant.NewGrant.{NewGrant}
use Rattle.region_access.specs.NewEdges.{HasNoRow, AddsGrant}
use Rattle.region_access.specs.Reaching.{IsRegionOf}
use Rattle.region_access.specs.Seeds.{IsSeedOf}
use Rattle.region_access.proofs.Roomy.{region_closed}
use Rattle.region_access.proofs.Ticked.{tick_touches}
use Rattle.region_access.proofs.Trashed.{trash_touches}
use Rattle.region_access.proofs.Upgraded.{upgrade_touches}
use Rattle.live_access.specs.Adding.{grant_added, IsNewOf}
use Rattle.live_access.proofs.NewRow.{adds_none, adds_none_revoked, adds_one, adds_nothing, no_row_of_one, no_row_of_none}
use Rattle.live_access.proofs.Pushed.{next_number}
use Rattle.live_access.proofs.Raised.{nodes_of_app}
use Rattle.live_access.proofs.Touched.{grant_added_touches, grant_revoked_touches, grain_added_touches, account_set_touches}
use Rattle.live_access.proofs.Widened.{Widens, touches_by_widening}

-- The nodes have the seeds of the event, and lead nowhere.
record IsSetFor (s : State) (e : Event) (nodes : List Node) : Type 0 where
  whole : IsCoherent s.tables
  whole_after : IsCoherent (after s e).tables
  numbered : IsNumbered (after s e)
  inside : (at : Node) → IsSeedOf s.tables e at → Contains nodes at
  closed : LeadsNowhere s.tables nodes
  changed : HasChanged s e

set_for : (s : State) (e : Event) (seeds nodes : List Node) → IsWellFormed s → EventFits s e → ((at : Node) → Contains seeds at ↔ IsSeedOf s.tables e at) → IsRegionOf s.tables seeds nodes → IsSetFor s e nodes
set_for s e seeds nodes formed fits exact region = record {
  whole = coherent s.tables formed.tables;
  whole_after = coherent (after s e).tables fits.formed.tables;
  numbered = fits.formed.numbered;
  inside = λ at is. (region.exact at).1 (seed ((exact at).1 is));
  closed = region_closed s.tables seeds nodes region;
  changed = fits.changed;
}

-- the rows on which anything hangs are the same
same_rows : (t u : Tables) → t.accounts ≡ u.accounts → t.apps ≡ u.apps → t.grains ≡ u.grains → t.grants ≡ u.grants → u.moment ≡ t.moment → Widens t u
same_rows t u accounts apps grains grants moment = record {
  accounts = λ a x is. rw (← accounts) is;
  apps = λ p x is. rw (← apps) is;
  grains = λ n. rw grains refl;
  grants = λ g. rw grants refl;
  moment = moment;
}

touched : (s : State) (e : Event) (nodes : List Node) → IsSetFor s e nodes → Touches nodes s.tables (after s e).tables
touched s (event.AccountAdded account) nodes set =
    touches_by_widening s.tables (after s (event.AccountAdded account)).tables
    (record { accounts = λ a x is. push_old_row s.tables.accounts (account ∷ []) a.0 x is; apps = λ p x is. is; grains = λ n. refl; grants = λ g. refl; moment = refl }) set.whole nodes set.closed
touched s (event.AppAdded app) nodes set =
    touches_by_widening s.tables (after s (event.AppAdded app)).tables
    (record { accounts = λ a x is. is; apps = λ p x is. push_old_row s.tables.apps (app ∷ []) p.0 x is; grains = λ n. refl; grants = λ g. refl; moment = refl }) set.whole nodes set.closed
touched s (event.AppUpgraded p manifest) nodes set = upgrade_touches s.tables nodes p (with_manifest manifest) (nodes_of_app s.tables nodes p set.inside) set.whole set.closed
touched s (event.GrainAdded grain) nodes set =
    grain_added_touches s.tables grain (next_number (λ (x : Grain). x.num.0) s.tables.grains grain set.numbered.grains) set.whole nodes set.whole_after (set.inside (node.User grain.num grain.owner) refl) set.closed
touched s (event.GrantAdded grant) nodes set =
    grant_added_touches s.tables grant (next_number (λ (x : Grant). x.num.0) s.tables.grants grant set.numbered.grants) nodes set.whole set.whole_after (set.inside (node_of grant.num grant) refl) set.closed
touched s (event.Claimed grant handle) nodes set =
    grant_added_touches s.tables grant (next_number (λ (x : Grant). x.num.0) s.tables.grants grant set.numbered.grants) nodes set.whole set.whole_after (set.inside (node_of grant.num grant) refl) set.closed
touched s (event.GrantRevoked g) nodes set = grant_revoked_touches s.tables g nodes set.whole set.whole_after (λ grant is. set.inside (node_of g grant) (grant, is, refl)) set.closed
touched s (event.TrashedSet n on) nodes set =
    trash_touches s.tables n on nodes (λ grain is. set.inside (node.User n grain.owner) (inl (grain, is, refl))) (λ g grant is same. set.inside (node_of g grant) (inr (g, grant, is, same, refl)))
    set.whole set.whole_after set.closed
touched s (event.AdminSet a on) nodes set =
    account_set_touches s.tables a (with_admin on) nodes (inl (λ account. refl)) (inr (λ g grant is c. set.inside (node_of g grant) (g, grant, is, c, refl))) set.whole set.whole_after set.closed
touched s (event.EnabledSet a on) nodes set =
    account_set_touches s.tables a (with_enabled on) nodes (inr (λ n grain is. set.inside (node.User n a) (inr (n, grain, is, refl))))
    (inr (λ g grant is c. set.inside (node_of g grant) (inl (g, grant, is, c, refl)))) set.whole set.whole_after set.closed
touched s (event.LoginSet a login) nodes set =
    account_set_touches s.tables a (with_login login) nodes (inl (λ account. refl)) (inl (λ account. (refl, refl))) set.whole set.whole_after set.closed
touched s (event.SavedAdded saved) nodes set = touches_by_widening s.tables (after s (event.SavedAdded saved)).tables (same_rows s.tables _ refl refl refl refl refl) set.whole nodes set.closed
touched s (event.SavedDropped v) nodes set = touches_by_widening s.tables (after s (event.SavedDropped v)).tables (same_rows s.tables _ refl refl refl refl refl) set.whole nodes set.closed
touched s (event.RunStarted run) nodes set = touches_by_widening s.tables s.tables (same_rows s.tables _ refl refl refl refl refl) set.whole nodes set.closed
touched s (event.RunStopped r) nodes set = touches_by_widening s.tables s.tables (same_rows s.tables _ refl refl refl refl refl) set.whole nodes set.closed
touched s (event.SessionOpened session) nodes set = touches_by_widening s.tables s.tables (same_rows s.tables _ refl refl refl refl refl) set.whole nodes set.closed
touched s (event.SessionClosed n) nodes set = touches_by_widening s.tables s.tables (same_rows s.tables _ refl refl refl refl refl) set.whole nodes set.closed
touched s (event.HandleMade handle) nodes set = touches_by_widening s.tables s.tables (same_rows s.tables _ refl refl refl refl refl) set.whole nodes set.closed
touched s (event.Ticked m) nodes set =
    tick_touches s.tables m nodes set.changed (λ g grant ends. set.inside (node_of g grant) (g, grant, ends, refl)) set.whole set.whole_after set.closed

-- the change touches the region of its seeds alone
pub event_touches : (s : State) (e : Event) (seeds nodes : List Node) → IsWellFormed s → EventFits s e → ((at : Node) → Contains seeds at ↔ IsSeedOf s.tables e at) → IsRegionOf s.tables seeds nodes
    → Touches nodes s.tables (after s e).tables
event_touches s e seeds nodes formed fits exact region = touched s e nodes (set_for s e seeds nodes formed fits exact region)

-- the tables after the event have the grants of those before, alike, and the one that it adds
pub event_adds : (s : State) (e : Event) (added : Option NewGrant) → EventFits s e → IsNewOf (grant_added e) added → AddsGrant added s.tables (after s e).tables
event_adds s (event.GrantAdded grant) added fits is = adds_one s.tables grant (next_number (λ (x : Grant). x.num.0) s.tables.grants grant fits.formed.numbered.grants) added is
event_adds s (event.Claimed grant handle) added fits is = adds_one s.tables grant (next_number (λ (x : Grant). x.num.0) s.tables.grants grant fits.formed.numbered.grants) added is
event_adds s (event.GrantRevoked g) added fits is = adds_nothing s.tables _ added is (adds_none_revoked s.tables g)
event_adds s (event.AccountAdded account) added fits is = adds_nothing s.tables (after s (event.AccountAdded account)).tables added is (adds_none s.tables _ (λ g. refl))
event_adds s (event.AppAdded app) added fits is = adds_nothing s.tables (after s (event.AppAdded app)).tables added is (adds_none s.tables _ (λ g. refl))
event_adds s (event.AppUpgraded p manifest) added fits is = adds_nothing s.tables (after s (event.AppUpgraded p manifest)).tables added is (adds_none s.tables _ (λ g. refl))
event_adds s (event.GrainAdded grain) added fits is = adds_nothing s.tables (after s (event.GrainAdded grain)).tables added is (adds_none s.tables _ (λ g. refl))
event_adds s (event.SavedAdded saved) added fits is = adds_nothing s.tables (after s (event.SavedAdded saved)).tables added is (adds_none s.tables _ (λ g. refl))
event_adds s (event.AdminSet a on) added fits is = adds_nothing s.tables (after s (event.AdminSet a on)).tables added is (adds_none s.tables _ (λ g. refl))
event_adds s (event.EnabledSet a on) added fits is = adds_nothing s.tables (after s (event.EnabledSet a on)).tables added is (adds_none s.tables _ (λ g. refl))
event_adds s (event.LoginSet a login) added fits is = adds_nothing s.tables (after s (event.LoginSet a login)).tables added is (adds_none s.tables _ (λ g. refl))
event_adds s (event.TrashedSet n on) added fits is = adds_nothing s.tables (after s (event.TrashedSet n on)).tables added is (adds_none s.tables _ (λ g. refl))
event_adds s (event.SavedDropped v) added fits is = adds_nothing s.tables (after s (event.SavedDropped v)).tables added is (adds_none s.tables _ (λ g. refl))
event_adds s (event.RunStarted run) added fits is = adds_nothing s.tables s.tables added is (adds_none s.tables _ (λ g. refl))
event_adds s (event.RunStopped r) added fits is = adds_nothing s.tables s.tables added is (adds_none s.tables _ (λ g. refl))
event_adds s (event.SessionOpened session) added fits is = adds_nothing s.tables s.tables added is (adds_none s.tables _ (λ g. refl))
event_adds s (event.SessionClosed n) added fits is = adds_nothing s.tables s.tables added is (adds_none s.tables _ (λ g. refl))
event_adds s (event.HandleMade handle) added fits is = adds_nothing s.tables s.tables added is (adds_none s.tables _ (λ g. refl))
event_adds s (event.Ticked m) added fits is = adds_nothing s.tables (after s (event.Ticked m)).tables added is (adds_none s.tables _ (λ g. refl))

-- no grant has the number of the one that it adds
pub event_is_new : (s : State) (e : Event) (added : Option NewGrant) → EventFits s e → IsNewOf (grant_added e) added → HasNoRow s.tables added
event_is_new s (event.GrantAdded grant) added fits is = no_row_of_one s.tables grant (next_number (λ (x : Grant). x.num.0) s.tables.grants grant fits.formed.numbered.grants) added is
event_is_new s (event.Claimed grant handle) added fits is = no_row_of_one s.tables grant (next_number (λ (x : Grant). x.num.0) s.tables.grants grant fits.formed.numbered.grants) added is
event_is_new s (event.GrantRevoked g) added fits is = no_row_of_none s.tables added is
event_is_new s (event.AccountAdded account) added fits is = no_row_of_none s.tables added is
event_is_new s (event.AppAdded app) added fits is = no_row_of_none s.tables added is
event_is_new s (event.AppUpgraded p manifest) added fits is = no_row_of_none s.tables added is
event_is_new s (event.GrainAdded grain) added fits is = no_row_of_none s.tables added is
event_is_new s (event.SavedAdded saved) added fits is = no_row_of_none s.tables added is
event_is_new s (event.AdminSet a on) added fits is = no_row_of_none s.tables added is
event_is_new s (event.EnabledSet a on) added fits is = no_row_of_none s.tables added is
event_is_new s (event.LoginSet a login) added fits is = no_row_of_none s.tables added is
event_is_new s (event.TrashedSet n on) added fits is = no_row_of_none s.tables added is
event_is_new s (event.SavedDropped v) added fits is = no_row_of_none s.tables added is
event_is_new s (event.RunStarted run) added fits is = no_row_of_none s.tables added is
event_is_new s (event.RunStopped r) added fits is = no_row_of_none s.tables added is
event_is_new s (event.SessionOpened session) added fits is = no_row_of_none s.tables added is
event_is_new s (event.SessionClosed n) added fits is = no_row_of_none s.tables added is
event_is_new s (event.HandleMade handle) added fits is = no_row_of_none s.tables added is
event_is_new s (event.Ticked m) added fits is = no_row_of_none s.tables added is
