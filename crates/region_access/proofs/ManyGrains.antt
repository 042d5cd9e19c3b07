-- A change of grains touches nothing outside the region of their owners' nodes and of their grants.
use Rattle.std.proofs.Common.{◌≡◌, ◌⊎◌, List, Some, Contains, refl, sym, subst, inl, inr}
use Rattle.host_base.specs.declared.ids.AppId.{AppId}
use Rattle.host_base.specs.declared.ids.GrainId.{GrainId}
use Rattle.host_base.specs.declared.ids.GrantId.{GrantId}
use Rattle.share_graph.specs.declared.facts.Fact.{Fact}
use Rattle.share_graph.specs.declared.facts.Fact.TheVariants.{Open, Perm}
use Rattle.share_graph.specs.declared.facts.Node.{Node}
use Rattle.share_graph.specs.declared.facts.Node.TheVariants as node
use Rattle.share_graph.specs.declared.grants.Grant.{Grant}
use Rattle.share_graph.specs.declared.rows.Grain.{Grain}
use Rattle.share_graph.specs.declared.state.Tables.{Tables}
use Rattle.share_graph.specs.Coherent.{IsCoherent}
use Rattle.share_graph.specs.Derivation.{IsLive}
use Rattle.share_graph.specs.Nodes.{node_of, Gives}
use Rattle.share_graph.specs.Region.{GivesOutside}
use Rattle.share_graph.specs.Rows.{row, IsApp, IsGrant, IsKept}
use Rattle.least_access.proofs.Following.{node_of_site}
use Rattle.region_work.specs.Prepared.{LeadsNowhere, Touches}

abbrev pub with_grains : Tables → List Grain → Tables
with_grains t grains = record t { grains = grains }

-- the nodes have those of the grants on the grain
abbrev pub HasNodesOn : Tables → List Node → GrainId → Type 0
HasNodesOn t nodes n = (g : GrantId) (grant : Grant) → IsGrant t g grant → grant.grain ≡ n → Contains nodes (node_of g grant)

-- the grain has a row of the same application, or no grant is on it
abbrev pub IsStillOf : Tables → List Grain → GrainId → Grain → Type 0
IsStillOf t new n grain = ((other : Grain) × (row new n.0 ≡ Some other) × (other.app ≡ grain.app)) ⊎ ((g : GrantId) (grant : Grant) → IsGrant t g grant → grant.grain ≡ n → ⊥)

-- the grain's row is as it was, or its nodes are in the set
abbrev pub MayTouch : Tables → List Node → List Grain → GrainId → Grain → Type 0
MayTouch t nodes new n grain = (row new n.0 ≡ Some grain) ⊎ (Contains nodes (node.User n grain.owner) × HasNodesOn t nodes n × IsStillOf t new n grain)

module _ (t : Tables) (nodes : List Node) (old new : List Grain) (coherent : IsCoherent (with_grains t old))
    (each : (n : GrainId) (grain : Grain) → row old n.0 ≡ Some grain → MayTouch t nodes new n grain) where
  abbrev before : Tables
  before = with_grains t old

  abbrev after : Tables
  after = with_grains t new

  live_on : (g : GrantId) (grant : Grant) → IsLive before g grant → IsLive after g grant
  live_on g grant l = record { is_row = l.is_row; live = l.live; lasts = l.lasts }

  gives_on : (g : GrantId) (grant : Grant) → IsGrant t g grant → (fact : Fact) → Gives before grant fact → Gives after grant fact
  gives_on g grant is Open gives = tt
  gives_on g grant is (Perm p) (app, (grain, there, of_app), gives) =
      elim (each grant.grain grain there) [
        | inl same ↦ (app, (grain, same, of_app), gives)
        | inr (owner, others, still) ↦
            elim still [
              | inl (other, now, alike) ↦ (app, (other, now, subst (λ (a : AppId). IsApp t a app) (sym alike) of_app), gives)
              | inr none ↦ absurd (none g grant is refl)
            ]
      ]

  kept_on : (g : GrantId) (grant : Grant) → IsGrant t g grant → (Contains nodes (node_of g grant) → ⊥) → IsKept before grant.grain → IsKept after grant.grain
  kept_on g grant is out (grain, there, kept) =
      elim (each grant.grain grain there) [
        | inl same ↦ (grain, same, kept)
        | inr (owner, others, still) ↦ absurd (out (others g grant is refl))
      ]

  pub gives_by_grains : GivesOutside (Contains nodes) before after
  gives_by_grains = record {
    owned = λ n grain fact out (app, o, is).
        elim (each n grain o.is_row) [
          | inl same ↦ (app, record { is_row = same; of_app = o.of_app; kept = o.kept; enabled = o.enabled }, is)
          | inr (owner, others, still) ↦ absurd (out owner)
        ];
    passed = λ g grant fact out p. record { is_live = live_on g grant p.is_live; received = p.received; gives = gives_on g grant p.is_live.is_row fact p.gives };
    asked = λ g grant q out is c now. now;
    asked_of_site = λ g grant q out is none c now. now;
    opened = λ g grant out none o. record {
      is_live = live_on g grant o.is_live;
      kept = kept_on g grant o.is_live.is_row (λ c. out (subst (λ (n : Node). Contains nodes n) (sym (node_of_site before coherent g grant o.is_live.is_row none)) c)) o.kept;
    };
  }

-- both ways, what the change touches
pub touches_by_grains : (t : Tables) (nodes : List Node) (old new : List Grain) → IsCoherent (with_grains t old) → IsCoherent (with_grains t new)
    → ((n : GrainId) (grain : Grain) → row old n.0 ≡ Some grain → MayTouch t nodes new n grain)
    → ((n : GrainId) (grain : Grain) → row new n.0 ≡ Some grain → MayTouch t nodes old n grain)
    → LeadsNowhere t nodes → Touches nodes (with_grains t old) (with_grains t new)
touches_by_grains t nodes old new coherent coherent_after forth back closed = record {
  coherent = coherent;
  closed = closed;
  closed_after = closed;
  there = gives_by_grains t nodes old new coherent forth;
  back = gives_by_grains t nodes new old coherent_after back;
}
