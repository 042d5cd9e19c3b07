-- A change of accounts touches nothing outside the region of their own nodes, and of the grants that need them as admins.
use Rattle.std.proofs.Common.{◌⊎◌, List, Contains, sym, subst, inl, inr}
use Rattle.host_base.specs.declared.ids.AccountId.{AccountId}
use Rattle.host_base.specs.declared.ids.GrainId.{GrainId}
use Rattle.host_base.specs.declared.ids.GrantId.{GrantId}
use Rattle.share_graph.specs.declared.facts.Node.{Node}
use Rattle.share_graph.specs.declared.facts.Node.TheVariants as node
use Rattle.share_graph.specs.declared.grants.Grant.{Grant}
use Rattle.share_graph.specs.declared.grants.Need.{Need}
use Rattle.share_graph.specs.declared.grants.Need.TheVariants as need
use Rattle.share_graph.specs.declared.grants.Target.{Target}
use Rattle.share_graph.specs.declared.grants.Target.TheVariants as target
use Rattle.share_graph.specs.declared.rows.Account.{Account}
use Rattle.share_graph.specs.declared.rows.Grain.{Grain}
use Rattle.share_graph.specs.declared.state.Tables.{Tables}
use Rattle.share_graph.specs.Coherent.{IsCoherent}
use Rattle.share_graph.specs.Derivation.{IsLive, AsksNow}
use Rattle.share_graph.specs.Nodes.{node_at, node_of, MayReceive}
use Rattle.share_graph.specs.Region.{GivesOutside}
use Rattle.share_graph.specs.Rows.{IsGrain, IsGrant, IsEnabled, IsAdmin}
use Rattle.least_access.proofs.Following.{node_of_site}
use Rattle.region_work.specs.Prepared.{LeadsNowhere, Touches}

abbrev pub with_accounts : Tables → List Account → Tables
with_accounts t accounts = record t { accounts = accounts }

-- the nodes have the account's own node on each grain
abbrev pub HasOwnNodes : Tables → List Node → AccountId → Type 0
HasOwnNodes t nodes a = (n : GrainId) (grain : Grain) → IsGrain t n grain → Contains nodes (node.User n a)

-- the nodes have those of the grants that need the account as an admin
abbrev pub HasNeeding : Tables → List Node → AccountId → Type 0
HasNeeding t nodes a = (g : GrantId) (grant : Grant) → IsGrant t g grant → Contains grant.needs (need.UserIsAdmin a) → Contains nodes (node_of g grant)

module _ (t : Tables) (nodes : List Node) (old new : List Account) (coherent : IsCoherent (with_accounts t old))
    (enabled : (a : AccountId) → IsEnabled (with_accounts t old) a → IsEnabled (with_accounts t new) a ⊎ HasOwnNodes t nodes a)
    (admin : (a : AccountId) → IsAdmin (with_accounts t old) a → IsAdmin (with_accounts t new) a ⊎ HasNeeding t nodes a) where
  abbrev before : Tables
  before = with_accounts t old

  abbrev after : Tables
  after = with_accounts t new

  live_on : (g : GrantId) (grant : Grant) → IsLive before g grant → IsLive after g grant
  live_on g grant l = record { is_row = l.is_row; live = l.live; lasts = l.lasts }

  received_on : (g : GrantId) (n : GrainId) (grain : Grain) → IsGrain t n grain → (to : Target) → (Contains nodes (node_at g n to) → ⊥) → MayReceive before to → MayReceive after to
  received_on g n grain is (target.User a) out may =
      elim (enabled a may) [
        | inl still ↦ still
        | inr own ↦ absurd (out (own n grain is))
      ]
  received_on g n grain is (target.Bearer for_sharing) out may = tt
  received_on g n grain is (target.Claim h) out may = tt
  received_on g n grain is (target.Grain h) out may = tt

  asked_on : (g : GrantId) (grant : Grant) (q : Need) → (Contains nodes (node_of g grant) → ⊥) → IsGrant t g grant → Contains grant.needs q → AsksNow before q → AsksNow after q
  asked_on g grant (need.UserIsAdmin a) out is c now =
      elim (admin a now) [
        | inl still ↦ still
        | inr needing ↦ absurd (out (needing g grant is c))
      ]
  asked_on g grant (need.TokenValid h) out is c now = tt
  asked_on g grant (need.PermissionsHeld holder set) out is c now = tt

  pub gives_by_accounts : GivesOutside (Contains nodes) before after
  gives_by_accounts = record {
    owned = λ n grain fact out (app, o, is).
        elim (enabled grain.owner o.enabled) [
          | inl still ↦ (app, record { is_row = o.is_row; of_app = o.of_app; kept = o.kept; enabled = still }, is)
          | inr own ↦ absurd (out (own n grain o.is_row))
        ];
    passed = λ g grant fact out p.
        let (grain, is) = (coherent.grants g grant p.is_live.is_row).knows.grain in
        record { is_live = live_on g grant p.is_live; received = received_on g grant.grain grain is grant.target out p.received; gives = p.gives };
    asked = λ g grant q out is c now. asked_on g grant q out is c now;
    asked_of_site = λ g grant q out is none c now.
        asked_on g grant q (λ inside. out (subst (λ (n : Node). Contains nodes n) (sym (node_of_site before coherent g grant is none)) inside)) is c now;
    opened = λ g grant out none o. record { is_live = live_on g grant o.is_live; kept = o.kept };
  }

-- both ways, what the change touches
pub touches_by_accounts : (t : Tables) (nodes : List Node) (old new : List Account) → IsCoherent (with_accounts t old) → IsCoherent (with_accounts t new)
    → ((a : AccountId) → IsEnabled (with_accounts t old) a → IsEnabled (with_accounts t new) a ⊎ HasOwnNodes t nodes a)
    → ((a : AccountId) → IsEnabled (with_accounts t new) a → IsEnabled (with_accounts t old) a ⊎ HasOwnNodes t nodes a)
    → ((a : AccountId) → IsAdmin (with_accounts t old) a → IsAdmin (with_accounts t new) a ⊎ HasNeeding t nodes a)
    → ((a : AccountId) → IsAdmin (with_accounts t new) a → IsAdmin (with_accounts t old) a ⊎ HasNeeding t nodes a)
    → LeadsNowhere t nodes → Touches nodes (with_accounts t old) (with_accounts t new)
touches_by_accounts t nodes old new coherent coherent_after enabled enabled_before admin admin_before closed = record {
  coherent = coherent;
  closed = closed;
  closed_after = closed;
  there = gives_by_accounts t nodes old new coherent enabled admin;
  back = gives_by_accounts t nodes new old coherent_after enabled_before admin_before;
}
