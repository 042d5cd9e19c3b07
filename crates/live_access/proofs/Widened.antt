-- Accounts and applications that are added, where grains and grants stay, touch no node: no row names one that wasn't there.
use Rattle.std.proofs.Common.{◌≡◌, ℕ, List, Some, Contains, sym, ◌∙◌, subst}
use Rattle.std.proofs.lemmas.List.Elements.{All-contains}
use Rattle.host_base.specs.declared.ids.AccountId.{AccountId}
use Rattle.host_base.specs.declared.ids.AppId.{AppId}
use Rattle.host_base.specs.declared.ids.GrainId.{GrainId}
use Rattle.host_base.specs.declared.ids.GrantId.{GrantId}
use Rattle.share_graph.specs.declared.facts.Fact.{Fact}
use Rattle.share_graph.specs.declared.facts.Fact.TheVariants.{Open, Perm}
use Rattle.share_graph.specs.declared.facts.Node.{Node}
use Rattle.share_graph.specs.declared.grants.Grant.{Grant}
use Rattle.share_graph.specs.declared.grants.Need.{Need}
use Rattle.share_graph.specs.declared.grants.Need.TheVariants as need
use Rattle.share_graph.specs.declared.grants.Target.{Target}
use Rattle.share_graph.specs.declared.grants.Target.TheVariants as target
use Rattle.share_graph.specs.declared.rows.Account.{Account}
use Rattle.share_graph.specs.declared.rows.App.{App}
use Rattle.share_graph.specs.declared.state.Tables.{Tables}
use Rattle.share_graph.specs.Coherent.{IsCoherent}
use Rattle.share_graph.specs.Derivation.{IsLive, AsksNow}
use Rattle.share_graph.specs.Expiry.{Lasts}
use Rattle.share_graph.specs.Known.{HasAccount, HasApp, KnowsTarget, KnowsNeed}
use Rattle.share_graph.specs.Nodes.{MayReceive, Gives}
use Rattle.share_graph.specs.Region.{GivesOutside}
use Rattle.share_graph.specs.Rows.{row, IsAccount, IsApp, IsGrant, IsEnabled, IsKept}
use Rattle.region_work.specs.Prepared.{LeadsNowhere, Touches}

-- The accounts and applications of the first tables are in the second, which have the same grains, grants and moment.
pub record Widens (t u : Tables) : Type 0 where
  pub accounts : (a : AccountId) (account : Account) → IsAccount t a account → IsAccount u a account
  pub apps : (p : AppId) (app : App) → IsApp t p app → IsApp u p app
  pub grains : (n : GrainId) → row u.grains n.0 ≡ row t.grains n.0
  pub grants : (g : GrantId) → row u.grants g.0 ≡ row t.grants g.0
  pub moment : u.moment ≡ t.moment

module _ (t u : Tables) (widens : Widens t u) (coherent : IsCoherent t) where
  grant_back : (g : GrantId) (grant : Grant) → IsGrant u g grant → IsGrant t g grant
  grant_back g grant is = sym (widens.grants g) ∙ is

  live_on : (g : GrantId) (grant : Grant) → IsLive t g grant → IsLive u g grant
  live_on g grant l =
      record { is_row = widens.grants g ∙ l.is_row; live = l.live; lasts = subst (λ (now : ℕ). Lasts now grant.expires) (sym widens.moment) l.lasts }

  live_back : (g : GrantId) (grant : Grant) → IsLive u g grant → IsLive t g grant
  live_back g grant l =
      record { is_row = grant_back g grant l.is_row; live = l.live; lasts = subst (λ (now : ℕ). Lasts now grant.expires) widens.moment l.lasts }

  kept_on : (n : GrainId) → IsKept t n → IsKept u n
  kept_on n (grain, is, kept) = (grain, widens.grains n ∙ is, kept)

  kept_back : (n : GrainId) → IsKept u n → IsKept t n
  kept_back n (grain, is, kept) = (grain, sym (widens.grains n) ∙ is, kept)

  -- what the second tables say of an account or an application that was there, the first said

  enabled_on : (a : AccountId) → IsEnabled t a → IsEnabled u a
  enabled_on a (account, is, on) = (account, widens.accounts a account is, on)

  account_back : (a : AccountId) (account : Account) → HasAccount t a → IsAccount u a account → IsAccount t a account
  account_back a account (other, was) is =
      let again : row u.accounts a.0 ≡ Some other = widens.accounts a other was in
      let same : other ≡ account = cc in
      subst (λ (x : Account). IsAccount t a x) same was

  enabled_back : (a : AccountId) → HasAccount t a → IsEnabled u a → IsEnabled t a
  enabled_back a there (account, is, on) = (account, account_back a account there is, on)

  app_back : (p : AppId) (app : App) → HasApp t p → IsApp u p app → IsApp t p app
  app_back p app (other, was) is =
      let again : row u.apps p.0 ≡ Some other = widens.apps p other was in
      let same : other ≡ app = cc in
      subst (λ (x : App). IsApp t p x) same was

  received_on : (to : Target) → MayReceive t to → MayReceive u to
  received_on (target.User a) may = enabled_on a may
  received_on (target.Bearer for_sharing) may = tt
  received_on (target.Claim h) may = tt
  received_on (target.Grain h) may = tt

  received_back : (to : Target) → KnowsTarget t to → MayReceive u to → MayReceive t to
  received_back (target.User a) known may = enabled_back a known may
  received_back (target.Bearer for_sharing) known may = tt
  received_back (target.Claim h) known may = tt
  received_back (target.Grain h) known may = tt

  gives_on : (grant : Grant) (fact : Fact) → Gives t grant fact → Gives u grant fact
  gives_on grant Open gives = tt
  gives_on grant (Perm p) (app, (grain, is, of_app), gives) = (app, (grain, widens.grains grant.grain ∙ is, widens.apps grain.app app of_app), gives)

  gives_back : (grant : Grant) (fact : Fact) → Gives u grant fact → Gives t grant fact
  gives_back grant Open gives = tt
  gives_back grant (Perm p) (app, (grain, is, of_app), gives) =
      let was = sym (widens.grains grant.grain) ∙ is in
      (app, (grain, was, app_back grain.app app (coherent.grains grant.grain grain was).app of_app), gives)

  asked_on : (q : Need) → AsksNow t q → AsksNow u q
  asked_on (need.UserIsAdmin a) (account, is, on, admin) = (account, widens.accounts a account is, on, admin)
  asked_on (need.TokenValid h) now = tt
  asked_on (need.PermissionsHeld holder set) now = tt

  asked_back : (q : Need) → KnowsNeed t q → AsksNow u q → AsksNow t q
  asked_back (need.UserIsAdmin a) known (account, is, on, admin) = (account, account_back a account known is, on, admin)
  asked_back (need.TokenValid h) known now = tt
  asked_back (need.PermissionsHeld holder set) known now = tt

  need_known : (g : GrantId) (grant : Grant) (q : Need) → IsGrant u g grant → Contains grant.needs q → KnowsNeed t q
  need_known g grant q is c = All-contains (KnowsNeed t) grant.needs q (coherent.grants g grant (grant_back g grant is)).knows.needs c

  pub there : (nodes : List Node) → GivesOutside (Contains nodes) t u
  there nodes = record {
    owned = λ n grain fact out (app, o, has). (app, record { is_row = widens.grains n ∙ o.is_row; of_app = widens.apps grain.app app o.of_app; kept = o.kept; enabled = enabled_on grain.owner o.enabled }, has);
    passed = λ g grant fact out p. record { is_live = live_on g grant p.is_live; received = received_on grant.target p.received; gives = gives_on grant fact p.gives };
    asked = λ g grant q out is c now. asked_on q now;
    asked_of_site = λ g grant q out is none c now. asked_on q now;
    opened = λ g grant out none o. record { is_live = live_on g grant o.is_live; kept = kept_on grant.grain o.kept };
  }

  pub back : (nodes : List Node) → GivesOutside (Contains nodes) u t
  back nodes = record {
    owned = λ n grain fact out (app, o, has).
        let was = sym (widens.grains n) ∙ o.is_row in
        let knows = coherent.grains n grain was in
        (app, record { is_row = was; of_app = app_back grain.app app knows.app o.of_app; kept = o.kept; enabled = enabled_back grain.owner knows.owner o.enabled }, has);
    passed = λ g grant fact out p.
        let knows = (coherent.grants g grant (grant_back g grant p.is_live.is_row)).knows in
        record { is_live = live_back g grant p.is_live; received = received_back grant.target knows.target p.received; gives = gives_back grant fact p.gives };
    asked = λ g grant q out is c now. asked_back q (need_known g grant q is c) now;
    asked_of_site = λ g grant q out is none c now. asked_back q (need_known g grant q is c) now;
    opened = λ g grant out none o. record { is_live = live_back g grant o.is_live; kept = kept_back grant.grain o.kept };
  }

  pub touches_by_widening : (nodes : List Node) → LeadsNowhere t nodes → Touches nodes t u
  touches_by_widening nodes closed = record {
    coherent = coherent;
    closed = closed;
    closed_after = λ from g grant is feeds inside. closed from g grant (grant_back g grant is) feeds inside;
    there = there nodes;
    back = back nodes;
  }
