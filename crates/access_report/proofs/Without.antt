-- What holds without a grant, and what the grant doesn't reach.
use Rattle.std.proofs.Common.{◌≡◌, ◌≢◌, List, Option, Some, None, MatchOption, Contains, refl, sym, subst, inl, inr}
use Rattle.host_base.specs.declared.ids.GrantId.{GrantId}
use Rattle.share_graph.specs.declared.facts.Fact.{Fact}
use Rattle.share_graph.specs.declared.facts.Fact.TheVariants.{Open}
use Rattle.share_graph.specs.declared.facts.Node.{Node}
use Rattle.share_graph.specs.declared.facts.Node.TheVariants as node
use Rattle.share_graph.specs.declared.grants.Grant.{Grant}
use Rattle.share_graph.specs.declared.grants.Need.{Need}
use Rattle.share_graph.specs.declared.state.Tables.{Tables}
use Rattle.share_graph.specs.Coherent.{IsCoherent}
use Rattle.share_graph.specs.Derivation.{LetsThrough, IsOpenSite, Derivation, own, via, site, Uses, Holds, HoldsWithout, IsMetBy, Follows}
use Rattle.share_graph.specs.Nodes.{node_of, source_of}
use Rattle.share_graph.specs.Region.{Feeds}
use Rattle.share_graph.specs.Rows.{IsGrant}
use Rattle.least_access.specs.Solved.{Table, HeldAt}
use Rattle.least_access.proofs.Following.{node_of_site}
use Rattle.region_work.specs.Prepared.{LeadsNowhere}
use Rattle.access_report.specs.Steps.{IsOwned}
use Rattle.access_report.specs.Turns.{IsClosedBy}
use Rattle.access_report.proofs.Rested.{in_or_not}

-- ---- what follows by another grant from what holds without it, holds without it

module _ (t : Tables) (g h : GrantId) (grant : Grant) (other : h ≢ g) where
  without_by : (at : Node) (fact : Fact) (from : Option Node) → source_of grant ≡ from → ((q : Need) → Contains grant.needs q → IsMetBy t (HoldsWithout t g) q)
      → MatchOption from (IsOpenSite t h grant × (at ≡ node.Grant h) × (fact ≡ Open)) (λ n. LetsThrough t h grant fact × (at ≡ node_of h grant) × HoldsWithout t g n fact) → HoldsWithout t g at fact
  without_by at fact None is met s =
      subst (λ (n : Node). HoldsWithout t g n fact) (sym s.1) (subst (λ (f : Fact). HoldsWithout t g (node.Grant h) f) (sym s.2) (
        site s.0 is (λ q c. (met q c).0) (λ q c n asked a. ((met q c).1 n asked a).0),
        elim [
          | inl same ↦ other same
          | inr used ↦ ((met used.0 used.1).1 used.2 used.3 used.4).1 used.5
        ],
      ))
  without_by at fact (Some from) is met s =
      subst (λ (n : Node). HoldsWithout t g n fact) (sym s.1) (
        via s.0 is s.2.0 (λ q c. (met q c).0) (λ q c n asked a. ((met q c).1 n asked a).0),
        elim [
          | inl same ↦ other same
          | inr (inl used) ↦ s.2.1 used
          | inr (inr used) ↦ ((met used.0 used.1).1 used.2 used.3 used.4).1 used.5
        ],
      )

  pub derived_without : (at : Node) (fact : Fact) → Follows t (HoldsWithout t g) h grant at fact → HoldsWithout t g at fact
  derived_without at fact f = without_by at fact (source_of grant) refl f.met f.source

-- an owner needs no grant
pub own_without : (t : Tables) (g : GrantId) (at : Node) (fact : Fact) → IsOwned t at fact → HoldsWithout t g at fact
own_without t g at fact is = subst (λ (n : Node). HoldsWithout t g n fact) is.of_owner (own is.owns is.is_fact, λ used. used)

-- ---- nodes that the grant reaches

module _ (t : Tables) (coherent : IsCoherent t) (g : GrantId) (row : Grant) (is_row : IsGrant t g row) (nodes : List Node) (seeded : Contains nodes (node_of g row)) (closed : LeadsNowhere t nodes) where
  at_row : (h : GrantId) (grant : Grant) → IsGrant t h grant → h ≡ g → Contains nodes (node_of h grant)
  at_row h grant is same =
      let there : IsGrant t g grant = subst (λ (k : GrantId). IsGrant t k grant) same is in
      let one : row ≡ grant = cc in
      subst (λ (k : GrantId). Contains nodes (node_of k grant)) (sym same) (subst (λ (x : Grant). Contains nodes (node_of g x)) one seeded)

  -- what holds outside of them, holds without it
  unused : {at : Node} {fact : Fact} → (d : Derivation t at fact) → (Contains nodes at → ⊥) → Uses d g → ⊥
  unused (own o is) outside = λ used. used
  unused (via {g = h} {grant = grant} {from = from} passes source d now needs) outside =
      let is = passes.is_live.is_row in
      elim [
        | inl same ↦ outside (at_row h grant is same)
        | inr (inl used) ↦ unused d (λ inside. outside (closed from h grant is (inl source) inside)) used
        | inr (inr used) ↦ unused (needs used.0 used.1 used.2 used.3 used.4) (λ inside. outside (closed used.2 h grant is (inr (used.0, used.1, (used.3, used.4))) inside)) used.5
      ]
  unused (site {g = h} {grant = grant} opens source now needs) outside =
      let is = opens.is_live.is_row in
      let here = node_of_site t coherent h grant is source in
      elim [
        | inl same ↦ outside (subst (λ (n : Node). Contains nodes n) (sym here) (at_row h grant is same))
        | inr used ↦
            unused (needs used.0 used.1 used.2 used.3 used.4)
            (λ inside. outside (subst (λ (n : Node). Contains nodes n) (sym here) (closed used.2 h grant is (inr (used.0, used.1, (used.3, used.4))) inside))) used.5
      ]

  pub outside_without : (at : Node) (fact : Fact) → (Contains nodes at → ⊥) → Holds t at fact → HoldsWithout t g at fact
  outside_without at fact outside d = (d, unused d outside)

  -- ---- what holds without it at one of them is in a table that has what owners hold, what others hold outside, and what follows by other grants

  module _ (grants : List GrantId) (listed : (h : GrantId) (grant : Grant) → h ≢ g → IsGrant t h grant → Contains nodes (node_of h grant) → Contains grants h)
      (table : Table) (owned : (at : Node) (fact : Fact) → Contains nodes at → IsOwned t at fact → HeldAt table at fact)
      (outer : (h : GrantId) (grant : Grant) (at : Node) (fact : Fact) → Contains grants h → IsGrant t h grant → Feeds at grant → (Contains nodes at → ⊥) → Holds t at fact → HeldAt table at fact)
      (full : IsClosedBy t grants table table) where
    by_side : (at : Node) (fact : Fact) → (Contains nodes at → HeldAt table at fact) → ((Contains nodes at → ⊥) → HeldAt table at fact) → HeldAt table at fact
    by_side at fact within without = elim (in_or_not nodes at) [ inl inside ↦ within inside | inr outside ↦ without outside ]

    inner : {at : Node} {fact : Fact} → (d : Derivation t at fact) → (Uses d g → ⊥) → Contains nodes at → HeldAt table at fact
    inner (own {n = n} {grain = grain} {app = app} {fact = fact} o is) fresh inside =
        owned (node.User n grain.owner) fact inside (record { num = n; grain = grain; app = app; owns = o; is_fact = is; of_owner = refl })
    inner (via {g = h} {grant = grant} {from = from} {fact = fact} passes source d now needs) fresh inside =
        let is = passes.is_live.is_row in
        let here = listed h grant (λ same. fresh (inl same)) is inside in
        let first = by_side from fact (λ within. inner d (λ used. fresh (inr (inl used))) within) (λ outside. outer h grant from fact here is (inl source) outside d) in
        full h grant fact here is (record {
          met = λ q c. (
            now q c,
            λ at asked a.
                by_side at asked (λ within. inner (needs q c at asked a) (λ used. fresh (inr (inr (q, c, at, asked, a, used)))) within)
                (λ outside. outer h grant at asked here is (inr (q, c, (asked, a))) outside (needs q c at asked a)),
          );
          source = subst (λ (o : Option Node). MatchOption o (IsOpenSite t h grant × (node_of h grant ≡ node.Grant h) × (fact ≡ Open)) (λ n. LetsThrough t h grant fact × (node_of h grant ≡ node_of h grant) × HeldAt table n fact))
              (sym source) (passes, refl, first);
        })
    inner (site {g = h} {grant = grant} opens source now needs) fresh inside =
        let is = opens.is_live.is_row in
        let at_node = node_of_site t coherent h grant is source in
        let here = listed h grant (λ same. fresh (inl same)) is (subst (λ (n : Node). Contains nodes n) at_node inside) in
        subst (λ (n : Node). HeldAt table n Open) (sym at_node)
        (full h grant Open here is (record {
          met = λ q c. (
            now q c,
            λ at asked a.
                by_side at asked (λ within. inner (needs q c at asked a) (λ used. fresh (inr (q, c, at, asked, a, used))) within)
                (λ outside. outer h grant at asked here is (inr (q, c, (asked, a))) outside (needs q c at asked a)),
          );
          source = subst (λ (o : Option Node). MatchOption o (IsOpenSite t h grant × (node_of h grant ≡ node.Grant h) × (Open ≡ Open)) (λ n. LetsThrough t h grant Open × (node_of h grant ≡ node_of h grant) × HeldAt table n Open))
              (sym source) (opens, sym at_node, refl);
        }))

    pub inner_without : (at : Node) (fact : Fact) → HoldsWithout t g at fact → Contains nodes at → HeldAt table at fact
    inner_without at fact w inside = inner w.0 w.1 inside
