-- Where a new grant adds nothing, or revoking one takes nothing, what solved the tables solves those after it.
use Rattle.std.proofs.Common.{◌≡◌, ◌≢◌, ◌<◌, ◌+◌, ℕ, zero, suc, true, not, Option, is_some, List, [], ◌∷◌, ◌++◌, Some, None, Contains, MatchOption, length, refl, sym, ◌∙◌, ap, subst, inl, inr, arith}
use Rattle.std.proofs.Math.Dec.{eqb}
use Rattle.std.proofs.lemmas.Bool.{eq-eqb}
use Rattle.host_base.specs.declared.ids.GrantId.{GrantId}
use Rattle.share_graph.specs.declared.facts.Fact.{Fact}
use Rattle.share_graph.specs.declared.facts.Fact.TheVariants.{Open}
use Rattle.share_graph.specs.declared.facts.Node.{Node}
use Rattle.share_graph.specs.declared.facts.Node.TheVariants as node
use Rattle.share_graph.specs.declared.grants.Grant.{Grant}
use Rattle.share_graph.specs.declared.grants.Need.{Need}
use Rattle.share_graph.specs.declared.grants.Need.TheVariants as need
use Rattle.share_graph.specs.declared.rows.App.{App}
use Rattle.share_graph.specs.declared.event.Event.{Event}
use Rattle.share_graph.specs.declared.event.Event.TheVariants as event
use Rattle.share_graph.specs.declared.state.State.{State}
use Rattle.share_graph.specs.declared.state.Tables.{Tables}
use Rattle.share_graph.specs.Coherent.{IsCoherent}
use Rattle.share_graph.specs.Derivation.{IsLive, LetsThrough, Derivation, own, via, site, HoldsWithout, Uses, Follows, IsOpenSite, Asks, AsksNow}
use Rattle.share_graph.specs.EventFits.{EventFits}
use Rattle.share_graph.specs.Fitting.{IsAssignmentFor}
use Rattle.share_graph.specs.History.{after}
use Rattle.share_graph.specs.Nodes.{node_of, source_of, Gives}
use Rattle.share_graph.specs.Revoking.{revoke_in}
use Rattle.share_graph.specs.Region.{Feeds, seed, along, to_site}
use Rattle.share_graph.specs.Rows.{row, IsAppOf, IsGrant}
use Rattle.share_graph.specs.WellFormed.{AreNumbered}
use Rattle.share_graph.proofs.Coherence.{coherent}
use Rattle.share_graph.proofs.Fits.{app_unique}
use Rattle.share_graph.proofs.RevokingLaw.{revoking_law}
use Rattle.least_access.specs.Solved.{Table, HeldAt, IsSolutionOf}
use Rattle.least_access.proofs.Following.{follows_source}
use Rattle.least_access.proofs.Turns.{grant_id}
use Rattle.state_step.proofs.Each.{push_old_row}
use Rattle.region_work.specs.Owed.{holder_of}
use Rattle.region_work.proofs.Sums.{contains_cons}
use Rattle.region_access.specs.Arriving.{IsArrivalsOf}
use Rattle.share_graph.proofs.Marked.{same_number}
use Rattle.live_access.specs.Staying.{AddsNothing, IsFedOutside, IsGivenOtherwise, TakesNothing}
use Rattle.live_access.proofs.Pushed.{row_new, row_pushed, next_number}

-- ---- a grant that is added

abbrev pub adding : Tables → Grant → Tables
adding t grant = record t { grants = t.grants ++ grant ∷ [] }

module _ (t : Tables) (grant : Grant) (next : grant.num.0 ≡ length t.grants + 1) where
  abbrev with_grant : Tables
  with_grant = adding t grant

  live_on : (h : GrantId) (x : Grant) → IsLive t h x → IsLive with_grant h x
  live_on h x l = record { is_row = push_old_row t.grants (grant ∷ []) h.0 x l.is_row; live = l.live; lasts = l.lasts }

  forth : {at : Node} {fact : Fact} → Derivation t at fact → Derivation with_grant at fact
  forth (own o r) = own (record { is_row = o.is_row; of_app = o.of_app; kept = o.kept; enabled = o.enabled }) r
  forth (via {g = h} {grant = x} p s d now needs) =
      via (record { is_live = live_on h x p.is_live; received = p.received; gives = p.gives }) s (forth d) now (λ n c at asked a. forth (needs n c at asked a))
  forth (site {g = h} {grant = x} o s now needs) = site (record { is_live = live_on h x o.is_live; kept = o.kept }) s now (λ n c at asked a. forth (needs n c at asked a))

  module _ (table : Table) (solution : IsSolutionOf t table) (nothing : AddsNothing t table grant) where
    -- what the new grant passes on was held at its node
    by_new : (h : GrantId) (x : Grant) (from : Node) (fact : Fact) → h.0 ≡ length t.grants + 1 → grant ≡ x → source_of x ≡ Some from → Gives t x fact → Derivation t from fact → Derivation t (node_of h x) fact
    by_new h x from fact last same s gives d =
        let number : grant.num ≡ h = ap (λ n. grant_id n) (next ∙ sym last) in
        let one : nothing.from ≡ from = (let both : Some nothing.from ≡ Some from = sym nothing.source ∙ ap source_of same ∙ s in cc) in
        let held : HeldAt table nothing.from fact = subst (λ (n : Node). HeldAt table n fact) (sym one) ((solution from fact).1 d) in
        let gave : Gives t grant fact = subst (λ (y : Grant). Gives t y fact) (sym same) gives in
        let there : Derivation t (node_of grant.num grant) fact = (solution (node_of grant.num grant) fact).0 (nothing.held fact held gave) in
        subst (λ (y : Grant). Derivation t (node_of h y) fact) same (subst (λ (k : GrantId). Derivation t (node_of k grant) fact) number there)

    back : {at : Node} {fact : Fact} → Derivation with_grant at fact → Derivation t at fact
    back (own o r) = own (record { is_row = o.is_row; of_app = o.of_app; kept = o.kept; enabled = o.enabled }) r
    back (via {g = h} {grant = x} {from = from} {fact = fact} p s d now needs) =
        elim (row_pushed t.grants grant h.0 x p.is_live.is_row) [
          | inl before ↦
              via (record { is_live = record { is_row = before; live = p.is_live.live; lasts = p.is_live.lasts }; received = p.received; gives = p.gives }) s (back d) now (λ n c at asked a. back (needs n c at asked a))
          | inr (last, same) ↦ by_new h x from fact last same s p.gives (back d)
        ]
    back (site {g = h} {grant = x} o s now needs) =
        elim (row_pushed t.grants grant h.0 x o.is_live.is_row) [
          | inl before ↦ site (record { is_live = record { is_row = before; live = o.is_live.live; lasts = o.is_live.lasts }; kept = o.kept }) s now (λ n c at asked a. back (needs n c at asked a))
          | inr (last, same) ↦ absurd (let odd : Some nothing.from ≡ None = sym nothing.source ∙ ap source_of same ∙ s in cc)
        ]

    pub stays_added : IsSolutionOf with_grant table
    stays_added at fact = (λ h. forth ((solution at fact).0 h), λ d. (solution at fact).1 (back d))

-- ---- a grant that is revoked

module _ (t : Tables) (table : Table) (g : GrantId) (solution : IsSolutionOf t table) (nothing : TakesNothing t table g) where
  same_row : (h : GrantId) (x : Grant) → h.0 ≡ g.0 → IsGrant t h x → nothing.grant ≡ x
  same_row h x same is =
      let there : IsGrant t g x = subst (λ k. row t.grants k ≡ Some x) same is in
      let rows : Some nothing.grant ≡ Some x = sym nothing.is_row ∙ there in
      cc

  -- what hangs on the node has the node, and what its nodes feed
  within : Contains nothing.nodes (node_of g nothing.grant)
  within = (nothing.region.exact (node_of g nothing.grant)).1 (seed ((contains_cons (node_of g nothing.grant) [] (node_of g nothing.grant)).1 (inl refl)))

  goes_on : (from : Node) (h : GrantId) (x : Grant) → IsGrant t h x → Feeds from x → Contains nothing.nodes from → Contains nothing.nodes (node_of h x)
  goes_on from h x is feeds inside = (nothing.region.exact (node_of h x)).1 (along ((nothing.region.exact from).0 inside) h x is feeds)

  goes_to_site : (from : Node) (h : GrantId) (x : Grant) → IsGrant t h x → source_of x ≡ None → Feeds from x → Contains nothing.nodes from → Contains nothing.nodes (node.Grant h)
  goes_to_site from h x is none feeds inside = (nothing.region.exact (node.Grant h)).1 (to_site ((nothing.region.exact from).0 inside) h x is none feeds)

  -- outside of it no derivation uses the grant
  never_used : {at : Node} {fact : Fact} (d : Derivation t at fact) → (Contains nothing.nodes at → ⊥) → Uses d g → ⊥
  never_used (own o r) out used = used
  never_used (via {g = h} {grant = x} {from = from} p s d now needs) out used =
      elim used [
        | inl same ↦
            let one = same_row h x (ap (λ (k : GrantId). k.0) same) p.is_live.is_row in
            out (subst (λ (k : GrantId). Contains nothing.nodes (node_of k x)) (sym same) (subst (λ (y : Grant). Contains nothing.nodes (node_of g y)) one within))
        | inr (inl deep) ↦ never_used d (λ inside. out (goes_on from h x p.is_live.is_row (inl s) inside)) deep
        | inr (inr (q, c, at, asked, a, deep)) ↦ never_used (needs q c at asked a) (λ inside. out (goes_on at h x p.is_live.is_row (inr (q, c, (asked, a))) inside)) deep
      ]
  never_used (site {g = h} {grant = x} o s now needs) out used =
      elim used [
        | inl same ↦
            let one = same_row h x (ap (λ (k : GrantId). k.0) same) o.is_live.is_row in
            absurd (let odd : Some nothing.from ≡ None = sym nothing.source ∙ ap source_of one ∙ s in cc)
        | inr (q, c, at, asked, a, deep) ↦ never_used (needs q c at asked a) (λ inside. out (goes_to_site at h x o.is_live.is_row s (inr (q, c, (asked, a))) inside)) deep
      ]

  -- what another grant gives from outside holds without this one
  by_other : (at : Node) (fact : Fact) → IsGivenOtherwise t table nothing.nodes g at fact → HoldsWithout t g at fact
  by_other at fact gave =
      let through = follows_source t (HeldAt table) gave.other gave.grant gave.fed.from (node_of gave.other gave.grant) fact gave.fed.source gave.follows in
      let source : Derivation t gave.fed.from fact = (solution gave.fed.from fact).0 through.2 in
      let needs : (q : Need) → Contains gave.grant.needs q → (n : Node) (asked : Fact) → Asks q n asked → Derivation t n asked = λ q c n asked a.
      (solution n asked).0 ((gave.follows.met q c).1 n asked a) in
      subst (λ (n : Node). HoldsWithout t g n fact) gave.there (
        via through.0 gave.fed.source source (λ q c. (gave.follows.met q c).0) needs,
        elim [
          | inl same ↦ gave.apart same
          | inr (inl used) ↦ never_used source gave.fed.out used
          | inr (inr used) ↦ never_used (needs used.0 used.1 used.2 used.3 used.4) (gave.fed.needs used.0 used.1 used.2 used.3 used.4) used.5
        ],
      )

  by_this : (h : GrantId) (x : Grant) (from : Node) (fact : Fact) → h.0 ≡ g.0 → LetsThrough t h x fact → source_of x ≡ Some from → Derivation t from fact
      → ((q : Need) → Contains x.needs q → AsksNow t q) → ((q : Need) → Contains x.needs q → (at : Node) (asked : Fact) → Asks q at asked → Derivation t at asked) → HoldsWithout t g (node_of h x) fact
  by_this h x from fact same p s d now needs =
      let id : h ≡ g = ap (λ n. grant_id n) same in
      let one : nothing.grant ≡ x = same_row h x same p.is_live.is_row in
      let follows : Follows t (HeldAt table) g x (node_of g x) fact = record {
        met = λ q c. (now q c, λ at asked a. (solution at asked).1 (needs q c at asked a));
        source = subst (λ o. MatchOption o (IsOpenSite t g x × (node_of g x ≡ node.Grant g) × (fact ≡ Open)) (λ (n : Node). LetsThrough t g x fact × (node_of g x ≡ node_of g x) × HeldAt table n fact))
            (sym s) (subst (λ (k : GrantId). LetsThrough t k x fact) id p, refl, (solution from fact).1 d);
      } in
      let given : IsGivenOtherwise t table nothing.nodes g (node_of g x) fact =
      subst (λ (y : Grant). Follows t (HeldAt table) g y (node_of g y) fact → IsGivenOtherwise t table nothing.nodes g (node_of g y) fact) one (nothing.given fact) follows in
      subst (λ (k : GrantId). HoldsWithout t g (node_of k x) fact) (sym id) (by_other (node_of g x) fact given)

  without : {at : Node} {fact : Fact} → Derivation t at fact → HoldsWithout t g at fact
  without (own o r) = (own o r, λ used. used)
  without (via {g = h} {grant = x} {from = from} {fact = fact} p s d now needs) =
      elim (same_number h.0 g.0) [
        | inl same ↦ by_this h x from fact same p s d now needs
        | inr apart ↦
            let (e, fresh) = without d in (
              via p s e now (λ n c at asked a. (without (needs n c at asked a)).0),
              elim [
                | inl one ↦ apart (ap (λ (k : GrantId). k.0) one)
                | inr (inl used) ↦ fresh used
                | inr (inr used) ↦ (without (needs used.0 used.1 used.2 used.3 used.4)).1 used.5
              ],
            )
      ]
  without (site {g = h} {grant = x} o s now needs) =
      elim (same_number h.0 g.0) [
        | inl same ↦ absurd (
            let one : nothing.grant ≡ x = same_row h x same o.is_live.is_row in
            let odd : Some nothing.from ≡ None = sym nothing.source ∙ ap source_of one ∙ s in cc)
        | inr apart ↦ (
          site o s now (λ n c at asked a. (without (needs n c at asked a)).0),
          elim [
            | inl one ↦ apart (ap (λ (k : GrantId). k.0) one)
            | inr used ↦ (without (needs used.0 used.1 used.2 used.3 used.4)).1 used.5
          ],
        )
      ]

  first : 0 < g.0
  first = positive g.0 nothing.is_row
    where
      positive : (n : ℕ) → row t.grants n ≡ Some nothing.grant → 0 < n
      positive zero is = cc
      positive (suc n) is = omega arith

  stays_revoked : IsSolutionOf (revoke_in t g) table
  stays_revoked at fact =
      let law = revoking_law t g first at fact in
      (λ h. law.1 (without ((solution at fact).0 h)), λ d. (solution at fact).1 (law.0 d).0)

-- ---- what other grants give

pub some_of : (o : Option Node) → is_some o ≡ true → (from : Node) × (o ≡ Some from)
some_of None e = cc
some_of (Some from) e = (from, refl)

pub other_grant : (a b : GrantId) → true ≡ not (eqb a.0 b.0) → a ≢ b
other_grant a b e same = (let one : eqb a.0 b.0 ≡ true = eq-eqb a.0 b.0 (ap (λ (g : GrantId). g.0) same) in cc)

-- what one more of the grants that go to a node gives from outside
pub given_more : (t : Tables) (table : Table) (nodes : List Node) (into : Node → List GrantId) (at : Node) (num other : GrantId) (fact : Fact) → IsArrivalsOf t into → Contains (into at) other → other ≢ num
    → ((grant : Grant) → IsGrant t other grant → Follows t (HeldAt table) other grant (node_of other grant) fact × IsFedOutside nodes grant) → IsGivenOtherwise t table nodes num at fact
given_more t table nodes into at num other fact arrivals inside apart gave =
    let (grant, is, there) = (arrivals.exact at other).0 inside in
    let both = gave grant is in
    record { other = other; apart = apart; grant = grant; is_row = is; there = there; follows = both.0; fed = both.1 }

-- a need that names no node asks nothing of one
pub asks_none : (q : Need) (at : Node) (asked : Fact) → holder_of q ≡ None → Asks q at asked → ⊥
asks_none (need.TokenValid h) at asked none a = cc none
asks_none (need.PermissionsHeld holder set) at asked none a = cc none
asks_none (need.UserIsAdmin u) at asked none a = a

-- ---- by an event

-- the assignment of a new grant fits the application of its grain
assigned : (t : Tables) (grant : Grant) → grant.num.0 ≡ length t.grants + 1 → IsCoherent (adding t grant) → (app : App) → IsAppOf t grant.grain app → IsAssignmentFor app.manifest grant.assignment
assigned t grant next whole app of =
    let new : IsGrant (adding t grant) grant.num grant = subst (λ n. row (t.grants ++ grant ∷ []) n ≡ Some grant) (sym next) (row_new t.grants grant) in
    let (there, is, fits) = (whole.grants grant.num grant new).sets.assignment in
    subst (λ (one : App). IsAssignmentFor one.manifest grant.assignment) (app_unique t grant.grain there app is of) fits

module _ (s : State) (e : Event) (grant : Grant) (fits : EventFits s e) (same : (after s e).tables ≡ adding s.tables grant) where
  next_is : grant.num.0 ≡ length s.tables.grants + 1
  next_is = next_number (λ (x : Grant). x.num.0) s.tables.grants grant (subst (λ (t : Tables). AreNumbered (λ (x : Grant). x.num.0) t.grants) same fits.formed.numbered.grants)

  pub new_assigned : (app : App) → IsAppOf s.tables grant.grain app → IsAssignmentFor app.manifest grant.assignment
  new_assigned = assigned s.tables grant next_is (subst (λ (t : Tables). IsCoherent t) same (coherent (after s e).tables fits.formed.tables))

  pub new_stays : (table : Table) → IsSolutionOf s.tables table → AddsNothing s.tables table grant → IsSolutionOf (after s e).tables table
  new_stays table solution nothing = subst (λ (t : Tables). IsSolutionOf t table) (sym same) (stays_added s.tables grant next_is table solution nothing)

pub revoked_stays : (s : State) (e : Event) (g : GrantId) (table : Table) → e ≡ event.GrantRevoked g → IsSolutionOf s.tables table → TakesNothing s.tables table g → IsSolutionOf (after s e).tables table
revoked_stays s e g table is solution nothing = subst (λ (x : Event). IsSolutionOf (after s x).tables table) (sym is) (stays_revoked s.tables table g solution nothing)
