-- A fact holds after a grant was revoked exactly where some derivation did without the grant.
use Rattle.std.proofs.Common.{◌≡◌, ◌≢◌, ◌<◌, ℕ, List, Some, true, false, sym, ◌∙◌, ap, inl, inr}
use Rattle.host_base.specs.declared.ids.GrantId.{GrantId}
use Rattle.share_graph.specs.declared.grants.Grant.{Grant}
use Rattle.share_graph.specs.declared.state.Tables.{Tables}
use Rattle.share_graph.specs.declared.facts.Fact.{Fact}
use Rattle.share_graph.specs.declared.facts.Node.{Node}
use Rattle.share_graph.specs.Changing.{change_row}
use Rattle.share_graph.specs.Revoking.{revoke_in, TakesExactly}
use Rattle.share_graph.specs.Setting.{revoked}
use Rattle.share_graph.proofs.Marked.{change_row_other, mark_row_same}
use Rattle.share_graph.specs.Rows.{row}
use Rattle.share_graph.specs.Derivation.{IsLive, Derivation, own, via, site, Uses, HoldsWithout}

abbrev numbered : ℕ → GrantId
numbered n = record { 0 = n }

module _ (t : Tables) (gs : List Grant) (g : GrantId)
    (others : (h : GrantId) → h ≢ g → row gs h.0 ≡ row t.grants h.0)
    (gone : (grant : Grant) → row gs g.0 ≡ Some grant → grant.revoked ≡ true) where
  abbrev pub after : Tables
  after = record t { grants = gs }

  -- a grant that is live afterwards is another one
  live_other : (h : GrantId) (grant : Grant) → row gs h.0 ≡ Some grant → grant.revoked ≡ false → h ≢ g
  live_other h grant is live same =
      let at_g : row gs g.0 ≡ Some grant = rw (← same) is in
      let e = gone grant at_g in
      cc

  live_before : (h : GrantId) (grant : Grant) → IsLive after h grant → (h ≢ g) × IsLive t h grant
  live_before h grant l =
      let ne = live_other h grant l.is_row l.live in
      (ne, record { is_row = sym (others h ne) ∙ l.is_row; live = l.live; lasts = l.lasts })

  live_after : (h : GrantId) (grant : Grant) → h ≢ g → IsLive t h grant → IsLive after h grant
  live_after h grant ne l = record { is_row = others h ne ∙ l.is_row; live = l.live; lasts = l.lasts }

  pub before : {at : Node} {fact : Fact} → Derivation after at fact → HoldsWithout t g at fact
  before (own o r) = (own (record { is_row = o.is_row; of_app = o.of_app; kept = o.kept; enabled = o.enabled }) r, λ used. used)
  before (via {g = h} {grant = grant} {fact = fact} p s d now needs) =
      let (ne, l) = live_before h grant p.is_live in
      let (e, fresh) = before d in (
        via (record { is_live = l; received = p.received; gives = p.gives }) s e now (λ n c at asked a. (before (needs n c at asked a)).0),
        elim [
          | inl same ↦ ne same
          | inr (inl used) ↦ fresh used
          | inr (inr used) ↦ (before (needs used.0 used.1 used.2 used.3 used.4)).1 used.5
        ],
      )
  before (site {g = h} {grant = grant} o s now needs) =
      let (ne, l) = live_before h grant o.is_live in (
        site (record { is_live = l; kept = o.kept }) s now (λ n c at asked a. (before (needs n c at asked a)).0),
        elim [
          | inl same ↦ ne same
          | inr used ↦ (before (needs used.0 used.1 used.2 used.3 used.4)).1 used.5
        ],
      )

  pub since : {at : Node} {fact : Fact} → (d : Derivation t at fact) → ¬ Uses d g → Derivation after at fact
  since (own o r) fresh = own (record { is_row = o.is_row; of_app = o.of_app; kept = o.kept; enabled = o.enabled }) r
  since (via {g = h} {grant = grant} {fact = fact} p s d now needs) fresh =
      via (record { is_live = live_after h grant (λ same. fresh (inl same)) p.is_live; received = p.received; gives = p.gives }) s (since d (λ used. fresh (inr (inl used)))) now
      (λ n c at asked a. since (needs n c at asked a) (λ used. fresh (inr (inr (n, c, at, asked, a, used)))))
  since (site {g = h} {grant = grant} o s now needs) fresh =
      site (record { is_live = live_after h grant (λ same. fresh (inl same)) o.is_live; kept = o.kept }) s now
      (λ n c at asked a. since (needs n c at asked a) (λ used. fresh (inr (n, c, at, asked, a, used))))

-- The law of revoking: what holds after it is exactly what had a derivation without the grant.
pub revoking_law : (t : Tables) (g : GrantId) → 0 < g.0 → TakesExactly t g (revoke_in t g)
revoking_law t g first at fact =
    let gs : List Grant = change_row revoked t.grants g.0 in
    let others : (h : GrantId) → h ≢ g → row gs h.0 ≡ row t.grants h.0 =
    λ h ne. change_row_other revoked t.grants g.0 h.0 (λ e. ne (ap (λ n. numbered n) e)) in
    let gone : (grant : Grant) → row gs g.0 ≡ Some grant → grant.revoked ≡ true = λ grant is. mark_row_same t.grants g.0 grant first is in
    (λ d. before t gs g others gone d, λ w. since t gs g others gone w.0 w.1)
