-- A change of one grant touches nothing outside the region of its node.
use Rattle.std.proofs.Common.{◌≡◌, ◌≢◌, List, Contains, sym, ◌∙◌, subst, inl, inr}
use Rattle.host_base.specs.declared.ids.GrantId.{GrantId}
use Rattle.share_graph.specs.declared.facts.Node.{Node}
use Rattle.share_graph.specs.declared.grants.Grant.{Grant}
use Rattle.share_graph.specs.declared.state.Tables.{Tables}
use Rattle.share_graph.specs.Coherent.{IsCoherent}
use Rattle.share_graph.specs.Derivation.{IsLive}
use Rattle.share_graph.specs.Nodes.{node_of}
use Rattle.share_graph.specs.Region.{GivesOutside}
use Rattle.share_graph.specs.Rows.{row, IsGrant}
use Rattle.least_access.proofs.Following.{node_of_site}
use Rattle.region_work.specs.Prepared.{LeadsNowhere, Touches}
use Rattle.region_work.proofs.StepWorks.{same_grant}

-- the nodes have the node of grant g, as it was and as it is; the other grants are as they were
module _ (t : Tables) (gs : List Grant) (g : GrantId) (nodes : List Node) where
  abbrev pub after : Tables
  after = record t { grants = gs }

  module _ (others : (h : GrantId) → h ≢ g → row gs h.0 ≡ row t.grants h.0) where
    live_after : (h : GrantId) (grant : Grant) → h ≢ g → IsLive t h grant → IsLive after h grant
    live_after h grant apart l = record { is_row = others h apart ∙ l.is_row; live = l.live; lasts = l.lasts }

    live_before : (h : GrantId) (grant : Grant) → h ≢ g → IsLive after h grant → IsLive t h grant
    live_before h grant apart l = record { is_row = sym (others h apart) ∙ l.is_row; live = l.live; lasts = l.lasts }

    module _ (was : (grant : Grant) → IsGrant t g grant → Contains nodes (node_of g grant)) where
      apart_before : (h : GrantId) (grant : Grant) → IsGrant t h grant → (Contains nodes (node_of h grant) → ⊥) → h ≢ g
      apart_before h grant there out same = out (subst (λ (k : GrantId). Contains nodes (node_of k grant)) (sym same) (was grant (subst (λ (k : GrantId). IsGrant t k grant) same there)))

      pub gives_there : IsCoherent t → GivesOutside (Contains nodes) t after
      gives_there coherent = record {
        owned = λ n grain fact out (app, o, is). (app, record { is_row = o.is_row; of_app = o.of_app; kept = o.kept; enabled = o.enabled }, is);
        passed = λ h grant fact out p. record { is_live = live_after h grant (apart_before h grant p.is_live.is_row out) p.is_live; received = p.received; gives = p.gives };
        asked = λ h grant q out row_is c now. now;
        asked_of_site = λ h grant q out row_is none c now. now;
        opened = λ h grant out none o.
            let apart = apart_before h grant o.is_live.is_row (λ c. out (subst (λ (n : Node). Contains nodes n) (sym (node_of_site t coherent h grant o.is_live.is_row none)) c)) in
            record { is_live = live_after h grant apart o.is_live; kept = o.kept };
      }

    module _ (is : (grant : Grant) → IsGrant after g grant → Contains nodes (node_of g grant)) where
      apart_after : (h : GrantId) (grant : Grant) → IsGrant after h grant → (Contains nodes (node_of h grant) → ⊥) → h ≢ g
      apart_after h grant there out same = out (subst (λ (k : GrantId). Contains nodes (node_of k grant)) (sym same) (is grant (subst (λ (k : GrantId). IsGrant after k grant) same there)))

      pub gives_back : IsCoherent after → GivesOutside (Contains nodes) after t
      gives_back coherent = record {
        owned = λ n grain fact out (app, o, is). (app, record { is_row = o.is_row; of_app = o.of_app; kept = o.kept; enabled = o.enabled }, is);
        passed = λ h grant fact out p. record { is_live = live_before h grant (apart_after h grant p.is_live.is_row out) p.is_live; received = p.received; gives = p.gives };
        asked = λ h grant q out row_is c now. now;
        asked_of_site = λ h grant q out row_is none c now. now;
        opened = λ h grant out none o.
            let apart = apart_after h grant o.is_live.is_row (λ c. out (subst (λ (n : Node). Contains nodes n) (sym (node_of_site after coherent h grant o.is_live.is_row none)) c)) in
            record { is_live = live_before h grant apart o.is_live; kept = o.kept };
      }

      -- what led nowhere before the change leads nowhere after it
      pub closed_since : LeadsNowhere t nodes → LeadsNowhere after nodes
      closed_since closed from h grant row_is feeds inside =
          elim (same_grant h g) [
            | inl same ↦ subst (λ (k : GrantId). Contains nodes (node_of k grant)) (sym same) (is grant (subst (λ (k : GrantId). IsGrant after k grant) same row_is))
            | inr apart ↦ closed from h grant (sym (others h apart) ∙ row_is) feeds inside
          ]

    module _ (was : (grant : Grant) → IsGrant t g grant → Contains nodes (node_of g grant))
        (is : (grant : Grant) → IsGrant after g grant → Contains nodes (node_of g grant)) where
      pub touches : IsCoherent t → IsCoherent after → LeadsNowhere after nodes → Touches nodes t after
      touches coherent coherent_after closed = record {
        coherent = coherent;
        closed = λ from h grant row_is feeds inside.
            elim (same_grant h g) [
              | inl same ↦ subst (λ (k : GrantId). Contains nodes (node_of k grant)) (sym same) (was grant (subst (λ (k : GrantId). IsGrant t k grant) same row_is))
              | inr apart ↦ closed from h grant (others h apart ∙ row_is) feeds inside
            ];
        closed_after = closed;
        there = gives_there was coherent;
        back = gives_back is coherent_after;
      }
