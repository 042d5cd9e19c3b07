-- An event after which nothing can be lost gives all that was given, and more at its seeds alone.
use Rattle.std.proofs.Common.{◌≡◌, ◌↔◌, Bool, true, false, List, [], ◌∷◌, Some, Contains, refl, sym, ◌∙◌, ap, subst, inl, inr}
use Rattle.host_base.specs.declared.ids.AccountId.{AccountId}
use Rattle.host_base.specs.declared.ids.AppId.{AppId}
use Rattle.host_base.specs.declared.ids.GrainId.{GrainId}
use Rattle.host_base.specs.declared.ids.GrantId.{GrantId}
use Rattle.share_graph.specs.declared.event.Event.{Event}
use Rattle.share_graph.specs.declared.event.Event.TheVariants as event
use Rattle.share_graph.specs.declared.facts.Fact.{Fact}
use Rattle.share_graph.specs.declared.facts.Fact.TheVariants.{Open, Perm}
use Rattle.share_graph.specs.declared.facts.Node.{Node}
use Rattle.share_graph.specs.declared.facts.Node.TheVariants as node
use Rattle.share_graph.specs.declared.grants.Grant.{Grant}
use Rattle.share_graph.specs.declared.rows.Account.{Account}
use Rattle.share_graph.specs.declared.rows.App.{App}
use Rattle.share_graph.specs.declared.rows.Grain.{Grain}
use Rattle.share_graph.specs.declared.state.State.{State}
use Rattle.share_graph.specs.declared.state.Tables.{Tables}
use Rattle.share_graph.specs.Changing.{change_row}
use Rattle.share_graph.specs.Coherent.{IsCoherent}
use Rattle.share_graph.specs.EventFits.{EventFits}
use Rattle.share_graph.specs.History.{after}
use Rattle.share_graph.specs.Nodes.{node_of, Gives}
use Rattle.share_graph.specs.Region.{GivesOutside}
use Rattle.share_graph.specs.Rows.{row, IsGrain, IsKept, IsEnabled, IsAdmin}
use Rattle.share_graph.specs.Setting.{with_admin, with_enabled, with_login, with_manifest, with_trashed}
use Rattle.share_graph.specs.WellFormed.{IsWellFormed}
use Rattle.share_graph.proofs.Coherence.{coherent}
use Rattle.share_graph.proofs.Marked.{change_row_other, row_changed, same_number}
use Rattle.state_step.proofs.Each.{push_old_row}
use Rattle.region_access.specs.Seeds.{IsSeedOf}
use Rattle.region_access.proofs.ManyAccounts.{with_accounts, gives_by_accounts}
use Rattle.region_access.proofs.ManyGrains.{with_grains}
use Rattle.region_access.proofs.Trashed.{trash_back}
use Rattle.region_access.proofs.Upgraded.{upgrade_back}
use Rattle.live_access.specs.Adding.{OnlyAdds}
use Rattle.live_access.proofs.Pushed.{next_number}
use Rattle.live_access.proofs.Raised.{app_raised, nodes_of_app}
use Rattle.live_access.proofs.Touched.{account_id, grant_added_there, grant_added_back, grain_added_there, grain_added_back, account_set_back}
use Rattle.live_access.proofs.Widened.{Widens, there, back}

-- what is given, and where more is given
pub record Adds (t u : Tables) (seeds : List Node) : Type 0 where
  pub all : GivesOutside (Contains []) t u
  pub only : GivesOutside (Contains seeds) u t

widened : (t u : Tables) → Widens t u → IsCoherent t → (seeds : List Node) → Adds t u seeds
widened t u widens coherent seeds = record { all = there t u widens coherent []; only = back t u widens coherent seeds }

-- ---- an account that is raised

module _ (t : Tables) (a : AccountId) (f : Account → Account) where
  abbrev set : List Account
  set = change_row f t.accounts a.0

  still_enabled : ((account : Account) → account.enabled ≡ true → (f account).enabled ≡ true) → (b : AccountId) → IsEnabled t b → IsEnabled (with_accounts t set) b
  still_enabled keeps b (account, is, on) =
      elim (same_number b.0 a.0) [
        | inl same ↦
            let was : row t.accounts a.0 ≡ Some account = subst (λ k. row t.accounts k ≡ Some account) same is in
            (f account, subst (λ k. row set k ≡ Some (f account)) (sym same) (row_changed f t.accounts a.0 account was), keeps account on)
        | inr apart ↦ (account, change_row_other f t.accounts a.0 b.0 apart ∙ is, on)
      ]

  still_admin : ((account : Account) → account.enabled ≡ true → (f account).enabled ≡ true) → ((account : Account) → account.admin ≡ true → (f account).admin ≡ true)
      → (b : AccountId) → IsAdmin t b → IsAdmin (with_accounts t set) b
  still_admin keeps raises b (account, is, on, admin) =
      elim (same_number b.0 a.0) [
        | inl same ↦
            let was : row t.accounts a.0 ≡ Some account = subst (λ k. row t.accounts k ≡ Some account) same is in
            (f account, subst (λ k. row set k ≡ Some (f account)) (sym same) (row_changed f t.accounts a.0 account was), keeps account on, raises account admin)
        | inr apart ↦ (account, change_row_other f t.accounts a.0 b.0 apart ∙ is, on, admin)
      ]

  account_raised : IsCoherent t → ((account : Account) → account.enabled ≡ true → (f account).enabled ≡ true) → ((account : Account) → account.admin ≡ true → (f account).admin ≡ true)
      → GivesOutside (Contains []) t (with_accounts t set)
  account_raised coherent keeps raises =
      gives_by_accounts t [] t.accounts set coherent (λ b on. inl (still_enabled keeps b on)) (λ b admin. inl (still_admin keeps raises b admin))

-- ---- a grain that comes out of the trash

-- a grain that isn't in the trash stays as it is
kept_same : (grain : Grain) → grain.trashed ≡ false → with_trashed false grain ≡ grain
kept_same grain kept = ap (λ on. record grain { trashed = on }) (sym kept)

module _ (t : Tables) (n : GrainId) where
  abbrev new : List Grain
  new = change_row (with_trashed false) t.grains n.0

  abbrev untrashed : Tables
  untrashed = with_grains t new

  kept_row : (m : GrainId) (grain : Grain) → IsGrain t m grain → grain.trashed ≡ false → IsGrain untrashed m grain
  kept_row m grain is kept =
      elim (same_number m.0 n.0) [
        | inl same ↦
            let was : row t.grains n.0 ≡ Some grain = subst (λ k. row t.grains k ≡ Some grain) same is in
            subst (λ k. row new k ≡ Some grain) (sym same) (row_changed (with_trashed false) t.grains n.0 grain was ∙ ap (λ (x : Grain). Some x) (kept_same grain kept))
        | inr apart ↦ change_row_other (with_trashed false) t.grains n.0 m.0 apart ∙ is
      ]

  still_gives : (grant : Grant) (fact : Fact) → Gives t grant fact → Gives untrashed grant fact
  still_gives grant Open gives = tt
  still_gives grant (Perm p) (app, (grain, is, of_app), gives) =
      elim (same_number grant.grain.0 n.0) [
        | inl same ↦
            let was : row t.grains n.0 ≡ Some grain = subst (λ k. row t.grains k ≡ Some grain) same is in
            (app, (with_trashed false grain, subst (λ k. row new k ≡ Some (with_trashed false grain)) (sym same) (row_changed (with_trashed false) t.grains n.0 grain was), of_app), gives)
        | inr apart ↦ (app, (grain, change_row_other (with_trashed false) t.grains n.0 grant.grain.0 apart ∙ is, of_app), gives)
      ]

  still_kept : (m : GrainId) → IsKept t m → IsKept untrashed m
  still_kept m (grain, is, kept) = (grain, kept_row m grain is kept, kept)

  grain_untrashed : GivesOutside (Contains []) t untrashed
  grain_untrashed = record {
    owned = λ m grain fact out (app, o, has). (app, record { is_row = kept_row m grain o.is_row o.kept; of_app = o.of_app; kept = o.kept; enabled = o.enabled }, has);
    passed = λ g grant fact out p. record { is_live = record { is_row = p.is_live.is_row; live = p.is_live.live; lasts = p.is_live.lasts }; received = p.received; gives = still_gives grant fact p.gives };
    asked = λ g grant q out is c now. now;
    asked_of_site = λ g grant q out is none c now. now;
    opened = λ g grant out none o. record { is_live = record { is_row = o.is_live.is_row; live = o.is_live.live; lasts = o.is_live.lasts }; kept = still_kept grant.grain o.kept };
  }

-- ---- each event

same_rows : (t u : Tables) → t.accounts ≡ u.accounts → t.apps ≡ u.apps → t.grains ≡ u.grains → t.grants ≡ u.grants → u.moment ≡ t.moment → Widens t u
same_rows t u accounts apps grains grants moment = record {
  accounts = λ a x is. rw (← accounts) is;
  apps = λ p x is. rw (← apps) is;
  grains = λ n. rw grains refl;
  grants = λ g. rw grants refl;
  moment = moment;
}

module _ (s : State) (seeds : List Node) (formed : IsWellFormed s) where
  abbrev t : Tables
  t = s.tables

  whole : IsCoherent t
  whole = coherent t formed.tables

  untouched : (u : Tables) → t.accounts ≡ u.accounts → t.apps ≡ u.apps → t.grains ≡ u.grains → t.grants ≡ u.grants → u.moment ≡ t.moment → Adds t u seeds
  untouched u accounts apps grains grants moment = widened t u (same_rows t u accounts apps grains grants moment) whole seeds

  pub event_only_adds : (e : Event) → EventFits s e → ((at : Node) → Contains seeds at ↔ IsSeedOf t e at) → OnlyAdds t e → Adds t (after s e).tables seeds
  event_only_adds (event.AccountAdded account) fits exact only =
      widened t (after s (event.AccountAdded account)).tables
      (record { accounts = λ a x is. push_old_row t.accounts (account ∷ []) a.0 x is; apps = λ p x is. is; grains = λ n. refl; grants = λ g. refl; moment = refl }) whole seeds
  event_only_adds (event.AppAdded app) fits exact only =
      widened t (after s (event.AppAdded app)).tables
      (record { accounts = λ a x is. is; apps = λ p x is. push_old_row t.apps (app ∷ []) p.0 x is; grains = λ n. refl; grants = λ g. refl; moment = refl }) whole seeds
  event_only_adds (event.AppUpgraded p manifest) fits exact only =
      record {
        all = app_raised t p manifest only;
        only = upgrade_back t seeds p (with_manifest manifest) (nodes_of_app t seeds p (λ at is. (exact at).1 is));
      }
  event_only_adds (event.GrainAdded grain) fits exact only =
      let next = next_number (λ (x : Grain). x.num.0) t.grains grain fits.formed.numbered.grains in
      record {
        all = grain_added_there t grain next whole;
        only = grain_added_back t grain next whole seeds (coherent (after s (event.GrainAdded grain)).tables fits.formed.tables) ((exact (node.User grain.num grain.owner)).1 refl);
      }
  event_only_adds (event.GrantAdded grant) fits exact only =
      let next = next_number (λ (x : Grant). x.num.0) t.grants grant fits.formed.numbered.grants in
      record {
        all = grant_added_there t grant next whole;
        only = grant_added_back t grant next seeds (coherent (after s (event.GrantAdded grant)).tables fits.formed.tables) ((exact (node_of grant.num grant)).1 refl);
      }
  event_only_adds (event.Claimed grant handle) fits exact only =
      let next = next_number (λ (x : Grant). x.num.0) t.grants grant fits.formed.numbered.grants in
      record {
        all = grant_added_there t grant next whole;
        only = grant_added_back t grant next seeds (coherent (after s (event.Claimed grant handle)).tables fits.formed.tables) ((exact (node_of grant.num grant)).1 refl);
      }
  event_only_adds (event.GrantRevoked g) fits exact only = absurd only
  event_only_adds (event.TrashedSet n true) fits exact only = cc only
  event_only_adds (event.TrashedSet n false) fits exact only =
      record {
        all = grain_untrashed t n;
        only = trash_back t n false seeds (λ grain is. (exact (node.User n grain.owner)).1 (inl (grain, is, refl))) (λ g grant is same. (exact (node_of g grant)).1 (inr (g, grant, is, same, refl)))
            (coherent (after s (event.TrashedSet n false)).tables fits.formed.tables);
      }
  event_only_adds (event.AdminSet a false) fits exact only = cc only
  event_only_adds (event.AdminSet a true) fits exact only =
      record {
        all = account_raised t a (with_admin true) whole (λ account on. on) (λ account admin. refl);
        only = account_set_back t a (with_admin true) seeds (inl (λ account. refl)) (inr (λ g grant is c. (exact (node_of g grant)).1 (g, grant, is, c, refl)))
            (coherent (after s (event.AdminSet a true)).tables fits.formed.tables);
      }
  event_only_adds (event.EnabledSet a false) fits exact only = cc only
  event_only_adds (event.EnabledSet a true) fits exact only =
      record {
        all = account_raised t a (with_enabled true) whole (λ account on. refl) (λ account admin. admin);
        only = account_set_back t a (with_enabled true) seeds (inr (λ n grain is. (exact (node.User n a)).1 (inr (n, grain, is, refl))))
            (inr (λ g grant is c. (exact (node_of g grant)).1 (inl (g, grant, is, c, refl))))
            (coherent (after s (event.EnabledSet a true)).tables fits.formed.tables);
      }
  event_only_adds (event.LoginSet a login) fits exact only =
      record {
        all = account_raised t a (with_login login) whole (λ account on. on) (λ account admin. admin);
        only = account_set_back t a (with_login login) seeds (inl (λ account. refl)) (inl (λ account. (refl, refl))) (coherent (after s (event.LoginSet a login)).tables fits.formed.tables);
      }
  event_only_adds (event.SavedAdded saved) fits exact only = untouched (after s (event.SavedAdded saved)).tables refl refl refl refl refl
  event_only_adds (event.SavedDropped v) fits exact only = untouched (after s (event.SavedDropped v)).tables refl refl refl refl refl
  event_only_adds (event.RunStarted run) fits exact only = untouched t refl refl refl refl refl
  event_only_adds (event.RunStopped r) fits exact only = untouched t refl refl refl refl refl
  event_only_adds (event.SessionOpened session) fits exact only = untouched t refl refl refl refl refl
  event_only_adds (event.SessionClosed n) fits exact only = untouched t refl refl refl refl refl
  event_only_adds (event.HandleMade handle) fits exact only = untouched t refl refl refl refl refl
  event_only_adds (event.Ticked m) fits exact only = absurd only
