-- An application that gets another manifest touches nothing outside the region of its grains' nodes.
use Rattle.std.proofs.Common.{◌≡◌, ◌≢◌, ◌⊎◌, ℕ, List, Some, Contains, refl, sym, ◌∙◌, ap, subst, inl, inr}
use Rattle.host_base.specs.declared.ids.AppId.{AppId}
use Rattle.host_base.specs.declared.ids.GrainId.{GrainId}
use Rattle.host_base.specs.declared.ids.GrantId.{GrantId}
use Rattle.share_graph.specs.declared.facts.Fact.{Fact}
use Rattle.share_graph.specs.declared.facts.Fact.TheVariants.{Open, Perm}
use Rattle.share_graph.specs.declared.facts.Node.{Node}
use Rattle.share_graph.specs.declared.facts.Node.TheVariants as node
use Rattle.share_graph.specs.declared.grants.Grant.{Grant}
use Rattle.share_graph.specs.declared.rows.App.{App}
use Rattle.share_graph.specs.declared.rows.Grain.{Grain}
use Rattle.share_graph.specs.declared.state.Tables.{Tables}
use Rattle.share_graph.specs.Changing.{change_row}
use Rattle.share_graph.specs.Coherent.{IsCoherent}
use Rattle.share_graph.specs.Derivation.{IsLive}
use Rattle.share_graph.specs.Nodes.{node_of, Gives}
use Rattle.share_graph.specs.Region.{GivesOutside}
use Rattle.share_graph.specs.Rows.{row, IsGrain, IsGrant}
use Rattle.share_graph.proofs.Marked.{change_row_other, same_number}
use Rattle.region_work.specs.Prepared.{LeadsNowhere, Touches}

abbrev pub with_apps : Tables → List App → Tables
with_apps t apps = record t { apps = apps }

abbrev pub app_id : ℕ → AppId
app_id n = record { 0 = n }

-- The nodes have those of the owners of the application's grains, and of the grants on them.
pub record HasNodesOfApp (t : Tables) (nodes : List Node) (p : AppId) : Type 0 where
  pub owners : (n : GrainId) (grain : Grain) → IsGrain t n grain → grain.app ≡ p → Contains nodes (node.User n grain.owner)
  pub grants : (g : GrantId) (grant : Grant) (grain : Grain) → IsGrant t g grant → IsGrain t grant.grain grain → grain.app ≡ p → Contains nodes (node_of g grant)

module _ (t : Tables) (nodes : List Node) (p : AppId) (old new : List App) (inside : HasNodesOfApp t nodes p) (others : (q : AppId) → q ≢ p → row new q.0 ≡ row old q.0) where
  abbrev before : Tables
  before = with_apps t old

  abbrev after : Tables
  after = with_apps t new

  is_it : (q : AppId) → (q ≡ p) ⊎ (q ≢ p)
  is_it q =
      elim (same_number q.0 p.0) [
        | inl same ↦ inl (ap (λ (k : ℕ). app_id k) same)
        | inr apart ↦ inr (λ e. apart (ap (λ (a : AppId). a.0) e))
      ]

  live_on : (g : GrantId) (grant : Grant) → IsLive before g grant → IsLive after g grant
  live_on g grant l = record { is_row = l.is_row; live = l.live; lasts = l.lasts }

  gives_on : (g : GrantId) (grant : Grant) → IsGrant t g grant → (Contains nodes (node_of g grant) → ⊥) → (fact : Fact) → Gives before grant fact → Gives after grant fact
  gives_on g grant is out Open gives = tt
  gives_on g grant is out (Perm k) (app, (grain, there, of_app), gives) =
      elim (is_it grain.app) [
        | inl it ↦ absurd (out (inside.grants g grant grain is there it))
        | inr other ↦ (app, (grain, there, others grain.app other ∙ of_app), gives)
      ]

  pub gives_by_apps : GivesOutside (Contains nodes) before after
  gives_by_apps = record {
    owned = λ n grain fact out (app, o, has).
        elim (is_it grain.app) [
          | inl it ↦ absurd (out (inside.owners n grain o.is_row it))
          | inr other ↦ (app, record { is_row = o.is_row; of_app = others grain.app other ∙ o.of_app; kept = o.kept; enabled = o.enabled }, has)
        ];
    passed = λ g grant fact out l. record { is_live = live_on g grant l.is_live; received = l.received; gives = gives_on g grant l.is_live.is_row out fact l.gives };
    asked = λ g grant q out is c now. now;
    asked_of_site = λ g grant q out is none c now. now;
    opened = λ g grant out none o. record { is_live = live_on g grant o.is_live; kept = o.kept };
  }

module _ (t : Tables) (nodes : List Node) (p : AppId) (f : App → App) (inside : HasNodesOfApp t nodes p) where
  abbrev now : List App
  now = change_row f t.apps p.0

  apart : (q : AppId) → q ≢ p → q.0 ≢ p.0
  apart q other same = other (ap (λ (k : ℕ). app_id k) same)

  pub upgrade_back : GivesOutside (Contains nodes) (with_apps t now) t
  upgrade_back = gives_by_apps t nodes p now t.apps inside (λ q other. sym (change_row_other f t.apps p.0 q.0 (apart q other)))

  pub upgrade_touches : IsCoherent t → LeadsNowhere t nodes → Touches nodes t (with_apps t now)
  upgrade_touches coherent closed = record {
    coherent = coherent;
    closed = closed;
    closed_after = closed;
    there = gives_by_apps t nodes p t.apps now inside (λ q other. change_row_other f t.apps p.0 q.0 (apart q other));
    back = upgrade_back;
  }
