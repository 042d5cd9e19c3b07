-- A tick touches nothing outside the region of the grants that it ends.
use Rattle.std.proofs.Common.{◌<◌, ◌≤◌, ◌⊎◌, ℕ, List, Option, Some, None, Contains, subst, sym, arith, inl, inr}
use Rattle.host_base.specs.declared.ids.GrantId.{GrantId}
use Rattle.share_graph.specs.declared.facts.Node.{Node}
use Rattle.share_graph.specs.declared.grants.Grant.{Grant}
use Rattle.share_graph.specs.declared.state.Tables.{Tables}
use Rattle.share_graph.specs.Coherent.{IsCoherent}
use Rattle.share_graph.specs.Derivation.{IsLive}
use Rattle.share_graph.specs.Expiry.{Lasts}
use Rattle.share_graph.specs.Nodes.{node_of}
use Rattle.share_graph.specs.Rows.{IsGrant}
use Rattle.least_access.proofs.Following.{node_of_site}
use Rattle.region_work.specs.Prepared.{LeadsNowhere, Touches}
use Rattle.region_access.specs.Seeds.{ComesBetween, EndsBy}

-- an expiry that hasn't come, and doesn't come between the moments, hasn't come at the second
lasts_on : (now m : ℕ) (expires : Option ℕ) → Lasts now expires → (ComesBetween now m expires → ⊥) → Lasts m expires
lasts_on now m None lasts out = tt
lasts_on now m (Some end) lasts out =
    let sides : (m < end) ⊎ (end ≤ m) = grind arith in
    elim sides [ inl later ↦ later | inr come ↦ absurd (out (lasts, come)) ]

-- what hasn't come later hasn't come before
lasts_back : (now m : ℕ) (expires : Option ℕ) → now < m → Lasts m expires → Lasts now expires
lasts_back now m None later lasts = tt
lasts_back now m (Some end) later lasts = omega (arith, later, lasts)

module _ (t : Tables) (m : ℕ) (nodes : List Node) (later : t.moment < m)
    (ended : (g : GrantId) (grant : Grant) → EndsBy t m g grant → Contains nodes (node_of g grant)) where
  abbrev after : Tables
  after = record t { moment = m }

  live_on : (g : GrantId) (grant : Grant) → (Contains nodes (node_of g grant) → ⊥) → IsLive t g grant → IsLive after g grant
  live_on g grant out l = record {
    is_row = l.is_row;
    live = l.live;
    lasts = lasts_on t.moment m grant.expires l.lasts (λ ends. out (ended g grant (record { is_row = l.is_row; ends = ends })));
  }

  live_back : (g : GrantId) (grant : Grant) → IsLive after g grant → IsLive t g grant
  live_back g grant l = record { is_row = l.is_row; live = l.live; lasts = lasts_back t.moment m grant.expires later l.lasts }

  pub tick_touches : IsCoherent t → IsCoherent after → LeadsNowhere t nodes → Touches nodes t after
  tick_touches coherent coherent_after closed = record {
    coherent = coherent;
    closed = closed;
    closed_after = closed;
    there = record {
      owned = λ n grain fact out (app, o, is). (app, record { is_row = o.is_row; of_app = o.of_app; kept = o.kept; enabled = o.enabled }, is);
      passed = λ g grant fact out p. record { is_live = live_on g grant out p.is_live; received = p.received; gives = p.gives };
      asked = λ g grant q out is c now. now;
      asked_of_site = λ g grant q out is none c now. now;
      opened = λ g grant out none o. record {
        is_live = live_on g grant (λ c. out (subst (λ (n : Node). Contains nodes n) (sym (node_of_site t coherent g grant o.is_live.is_row none)) c)) o.is_live;
        kept = o.kept;
      };
    };
    back = record {
      owned = λ n grain fact out (app, o, is). (app, record { is_row = o.is_row; of_app = o.of_app; kept = o.kept; enabled = o.enabled }, is);
      passed = λ g grant fact out p. record { is_live = live_back g grant p.is_live; received = p.received; gives = p.gives };
      asked = λ g grant q out is c now. now;
      asked_of_site = λ g grant q out is none c now. now;
      opened = λ g grant out none o. record { is_live = live_back g grant o.is_live; kept = o.kept };
    };
  }
