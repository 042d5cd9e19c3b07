-- A node holds a fact exactly where a plain finite tree shows it.
use Rattle.std.proofs.Common.{◌≡◌, ◌⊎◌, ◌↔◌, zero, suc, List, [], ◌∷◌, map, flat_map, Contains, refl, sym, ap, ◌∙◌, subst, inl, inr, arith}
use Rattle.std.proofs.lemmas.List.Elements.{Contains-append_left, Contains-append_right, Contains-append_cases}
use Rattle.host_base.specs.declared.ids.GrantId.{GrantId}
use Rattle.perm_roles.specs.declared.perm_set.PermSet.{PermSet}
use Rattle.perm_roles.specs.PermSet.{positions}
use Rattle.perm_roles.proofs.Sets.{positions_has}
use Rattle.share_graph.specs.declared.facts.Fact.{Fact}
use Rattle.share_graph.specs.declared.facts.Fact.TheVariants.{Open, Perm}
use Rattle.share_graph.specs.declared.facts.Node.{Node}
use Rattle.share_graph.specs.declared.facts.Node.TheVariants as node
use Rattle.share_graph.specs.declared.grants.Need.{Need}
use Rattle.share_graph.specs.declared.grants.Need.TheVariants as need
use Rattle.share_graph.specs.declared.state.Tables.{Tables}
use Rattle.share_graph.specs.Derivation.{Asks, Derivation, Uses, Holds, HoldsWithout}
use Rattle.share_graph.specs.Derivation.{own as by_owner, via as by_grant, site as by_site}
use Rattle.share_graph.specs.Trees.{Tree, Trees, own, via, site, no_trees, more_trees, HeldFact, asked, Shows, ShowsAll, TreeUses, TreesUse, HasTree, HasTreeWithout}

-- ---- members of lists

-- the empty list contains nothing
Contains-nil : {X : Type 0} (x : X) → Contains [] x → ⊥
Contains-nil x (k, below, e) = omega arith

-- a list contains its head and what its tail contains
Contains-cons : {X : Type 0} (y : X) (ys : List X) (x : X) → Contains (y ∷ ys) x ↔ ((y ≡ x) ⊎ Contains ys x)
Contains-cons y ys x = (forth, elim [ inl e ↦ (0, omega arith, e) | inr w ↦ (suc w.0, omega arith, w.2) ])
  where
    forth : Contains (y ∷ ys) x → (y ≡ x) ⊎ Contains ys x
    forth (zero, below, e) = inl e
    forth (suc k, below, e) = inr (k, omega arith, e)

-- what a mapped list contains was made of a member
Contains-map : {X Y : Type 0} (f : X → Y) (xs : List X) (y : Y) → Contains (map f xs) y ↔ ((x : X) × Contains xs x × (f x ≡ y))
Contains-map f [] y = (λ h. absurd (Contains-nil y h), λ h. absurd (Contains-nil h.0 h.1))
Contains-map f (x ∷ xs) y = (
  λ h. elim ((Contains-cons (f x) (map f xs) y).0 h) [
    | inl e ↦ (x, (Contains-cons x xs x).1 (inl refl), e)
    | inr w ↦ let (z, m, e) = (Contains-map f xs y).0 w in (z, (Contains-cons x xs z).1 (inr m), e)
  ],
  λ (z, m, e). elim ((Contains-cons x xs z).0 m) [
    | inl same ↦ (Contains-cons (f x) (map f xs) y).1 (inl (ap f same ∙ e))
    | inr w ↦ (Contains-cons (f x) (map f xs) y).1 (inr ((Contains-map f xs y).1 (z, w, e)))
  ],
)

-- what the joined lists contain is in the list of a member
Contains-flat_map : {X Y : Type 0} (f : X → List Y) (xs : List X) (y : Y) → Contains (flat_map f xs) y ↔ ((x : X) × Contains xs x × Contains (f x) y)
Contains-flat_map f [] y = (λ h. absurd (Contains-nil y h), λ h. absurd (Contains-nil h.0 h.1))
Contains-flat_map f (x ∷ xs) y = (
  λ h. elim (Contains-append_cases (f x) (flat_map f xs) y h) [
    | inl here ↦ (x, (Contains-cons x xs x).1 (inl refl), here)
    | inr w ↦ let (z, m, i) = (Contains-flat_map f xs y).0 w in (z, (Contains-cons x xs z).1 (inr m), i)
  ],
  λ (z, m, i). elim ((Contains-cons x xs z).0 m) [
    | inl same ↦ Contains-append_left (f x) (flat_map f xs) y (subst (λ (q : _). Contains (f q) y) (sym same) i)
    | inr w ↦ Contains-append_right (f x) (flat_map f xs) y ((Contains-flat_map f xs y).1 (z, w, i))
  ],
)

-- ---- what needs ask

-- that the node holds the fact
abbrev claim : Node → Fact → HeldFact
claim at fact = record { at = at; fact = fact }

-- the claims of a set's permissions
abbrev claims : Node → PermSet → List HeldFact
claims holder set = map (λ p. claim holder (Perm p)) (positions set)

-- what a need asks is in its list
listed : (q : Need) (at : Node) (fact : Fact) → Asks q at fact → Contains (asked q) (claim at fact)
listed (need.TokenValid h) at fact a = (Contains-cons (claim (node.Grant h) Open) [] (claim at fact)).1 (inl (rw (a.0, a.1) refl))
listed (need.PermissionsHeld holder set) at Open a = (Contains-cons (claim holder Open) (claims holder set) (claim at Open)).1 (inl (rw a refl))
listed (need.PermissionsHeld holder set) at (Perm p) a =
    let member = (Contains-map (λ n. claim holder (Perm n)) (positions set) (claim at (Perm p))).1 (p, (positions_has set p).1 a.1, rw a.0 refl) in
    (Contains-cons (claim holder Open) (claims holder set) (claim at (Perm p))).1 (inr member)
listed (need.UserIsAdmin a) at fact h = absurd h

-- and what is in its list it asks
listed_asks : (q : Need) (c : HeldFact) → Contains (asked q) c → Asks q c.at c.fact
listed_asks (need.TokenValid h) c m =
    elim ((Contains-cons (claim (node.Grant h) Open) [] c).0 m) [ inl e ↦ (ap (λ x. x.at) (sym e), ap (λ x. x.fact) (sym e)) | inr none ↦ absurd (Contains-nil c none) ]
listed_asks (need.PermissionsHeld holder set) c m =
    elim ((Contains-cons (claim holder Open) (claims holder set) c).0 m) [
      | inl e ↦ rw (← e) refl
      | inr w ↦ let (p, i, e) = (Contains-map (λ n. claim holder (Perm n)) (positions set) c).0 w in rw (← e) (refl, (positions_has set p).0 i)
    ]
listed_asks (need.UserIsAdmin a) c m = absurd (Contains-nil c m)

-- what a grant's needs ask is in their list
listed_for : (needs : List Need) (q : Need) → Contains needs q → (at : Node) (fact : Fact) → Asks q at fact → Contains (flat_map asked needs) (claim at fact)
listed_for needs q m at fact a = (Contains-flat_map asked needs (claim at fact)).1 (q, m, listed q at fact a)

-- One of the needs asks the claim.
record IsAsked (needs : List Need) (c : HeldFact) : Type 0 where
  by : Need
  is_need : Contains needs by
  asks : Asks by c.at c.fact

-- and what is in their list one of them asks
asked_for : (needs : List Need) (c : HeldFact) → Contains (flat_map asked needs) c → IsAsked needs c
asked_for needs c m =
    let (q, i, w) = (Contains-flat_map asked needs c).0 m in
    record { by = q; is_need = i; asks = listed_asks q c w }

module _ (t : Tables) where
  -- ---- from trees to derivations

  -- A derivation that uses no grant but those given.
  record Derived (G : GrantId → Type 0) (at : Node) (fact : Fact) : Type 0 where
    derivation : Derivation t at fact
    uses : (g : GrantId) → Uses derivation g → G g

  mutual
    -- a valid tree is a derivation, with no more uses
    derivation_of : (d : Tree) (at : Node) (fact : Fact) → Shows t d at fact → Derived (TreeUses d) at fact
    derivation_of (own n held) at fact (grain, app, o, is, place, same) = rw (place, same) (record { derivation = by_owner o is; uses = λ g used. used })
    derivation_of (via h d ds) at fact (grant, from, p, place, s, sub, now, rest) =
        let source = derivation_of d from fact sub in
        let each = λ (q : Need) (c : Contains grant.needs q) (n : Node) (what : Fact) (a : Asks q n what).
        derivations_of ds (flat_map asked grant.needs) rest (claim n what) (listed_for grant.needs q c n what a) in
        rw place (record {
          derivation = by_grant p s source.derivation now (λ q c n what a. (each q c n what a).derivation);
          uses = λ g. elim [
            | inl same ↦ inl same
            | inr (inl used) ↦ inr (inl (source.uses g used))
            | inr (inr (q, c, n, what, a, used)) ↦ inr (inr ((each q c n what a).uses g used))
          ];
        })
    derivation_of (site h ds) at fact (grant, o, place, entry, s, now, rest) =
        let each = λ (q : Need) (c : Contains grant.needs q) (n : Node) (what : Fact) (a : Asks q n what).
        derivations_of ds (flat_map asked grant.needs) rest (claim n what) (listed_for grant.needs q c n what a) in
        rw (place, entry) (record {
          derivation = by_site o s now (λ q c n what a. (each q c n what a).derivation);
          uses = λ g. elim [ inl same ↦ inl same | inr (q, c, n, what, a, used) ↦ inr ((each q c n what a).uses g used) ];
        })

    -- of valid trees each claim is derived, with no more uses
    derivations_of : (ds : Trees) (cs : List HeldFact) → ShowsAll t ds cs → (c : HeldFact) → Contains cs c → Derived (TreesUse ds) c.at c.fact
    derivations_of no_trees [] s c m = absurd (Contains-nil c m)
    derivations_of no_trees (b ∷ cs) s c m = absurd s
    derivations_of (more_trees d ds) [] s c m = absurd s
    derivations_of (more_trees d ds) (b ∷ cs) s c m =
        elim ((Contains-cons b cs c).0 m) [
          | inl same ↦
              let first = derivation_of d b.at b.fact s.0 in
              rw (← same) (record { derivation = first.derivation; uses = λ g used. inl (first.uses g used) })
          | inr w ↦
              let later = derivations_of ds cs s.1 c w in
              record { derivation = later.derivation; uses = λ g used. inr (later.uses g used) }
        ]

  -- ---- from derivations to trees

  -- A valid tree that uses no grant but those given.
  record Shown (G : GrantId → Type 0) (at : Node) (fact : Fact) : Type 0 where
    shape : Tree
    shows : Shows t shape at fact
    uses : (g : GrantId) → TreeUses shape g → G g

  -- Valid trees of the claims, which use no grant but those given.
  record AllShown (G : GrantId → Type 0) (cs : List HeldFact) : Type 0 where
    shapes : Trees
    show : ShowsAll t shapes cs
    uses : (g : GrantId) → TreesUse shapes g → G g

  -- a tree for each claim makes the list of trees
  gathered : (G : GrantId → Type 0) (cs : List HeldFact) → ((c : HeldFact) → Contains cs c → Shown G c.at c.fact) → AllShown G cs
  gathered G [] each = record { shapes = no_trees; show = tt; uses = λ g used. absurd used }
  gathered G (c ∷ cs) each =
      let first = each c ((Contains-cons c cs c).1 (inl refl)) in
      let rest = gathered G cs (λ b m. each b ((Contains-cons c cs b).1 (inr m))) in
      record {
        shapes = more_trees first.shape rest.shapes;
        show = (first.shows, rest.show);
        uses = λ g. elim [ inl used ↦ first.uses g used | inr used ↦ rest.uses g used ];
      }

  -- For each fact that the needs ask there is a derivation.
  abbrev Derives : List Need → Type 0
  Derives needs = (q : Need) → Contains needs q → (at : Node) (what : Fact) → Asks q at what → Derivation t at what

  -- some step of these derivations is by the grant
  abbrev NeedsUse : (needs : List Need) → Derives needs → GrantId → Type 0
  NeedsUse needs each g = (q : Need) × (c : Contains needs q) × (at : Node) × (what : Fact) × (a : Asks q at what) × Uses (each q c at what a) g

  -- where each of them is a valid tree, there are valid trees of all that the needs ask, with no more uses
  needs_shown : (needs : List Need) (each : Derives needs)
      → ((q : Need) (c : Contains needs q) (at : Node) (what : Fact) (a : Asks q at what) → Shown (Uses (each q c at what a)) at what)
      → AllShown (NeedsUse needs each) (flat_map asked needs)
  needs_shown needs each shown =
      gathered (NeedsUse needs each) (flat_map asked needs) (λ c m.
      let a = asked_for needs c m in
      let one = shown a.by a.is_need c.at c.fact a.asks in
      record { shape = one.shape; shows = one.shows; uses = λ g used. (a.by, a.is_need, c.at, c.fact, a.asks, one.uses g used) })

  -- a derivation is a valid tree, with no more uses
  tree_of : {at : Node} {fact : Fact} → (d : Derivation t at fact) → Shown (Uses d) at fact
  tree_of (by_owner {n = n} {grain = grain} {app = app} {fact = fact} o is) = record {
    shape = own n fact;
    shows = (grain, app, o, is, refl, refl);
    uses = λ g used. used;
  }
  tree_of (by_grant {g = h} {grant = grant} {from = from} {fact = fact} p s d now needs) =
      let source = tree_of d in
      let rest = needs_shown grant.needs needs (λ q c at what a. tree_of (needs q c at what a)) in
      record {
        shape = via h source.shape rest.shapes;
        shows = (grant, from, p, refl, s, source.shows, now, rest.show);
        uses = λ g. elim [ inl same ↦ inl same | inr (inl used) ↦ inr (inl (source.uses g used)) | inr (inr used) ↦ inr (inr (rest.uses g used)) ];
      }
  tree_of (by_site {g = h} {grant = grant} o s now needs) =
      let rest = needs_shown grant.needs needs (λ q c at what a. tree_of (needs q c at what a)) in
      record {
        shape = site h rest.shapes;
        shows = (grant, o, refl, refl, s, now, rest.show);
        uses = λ g. elim [ inl same ↦ inl same | inr used ↦ inr (rest.uses g used) ];
      }

-- A node holds a fact exactly where some valid tree concludes it.
pub trees_agree : (t : Tables) (at : Node) (fact : Fact) → Holds t at fact ↔ HasTree t at fact
trees_agree t at fact =
    (λ d. let shown = tree_of t d in (shown.shape, shown.shows), λ h. (derivation_of t h.0 at fact h.1).derivation)

-- And some derivation does without a grant exactly where some valid tree does.
pub trees_agree_without : (t : Tables) (g : GrantId) (at : Node) (fact : Fact) → HoldsWithout t g at fact ↔ HasTreeWithout t g at fact
trees_agree_without t g at fact = (
  λ (d, fresh). let shown = tree_of t d in (shown.shape, shown.shows, λ used. fresh (shown.uses g used)),
  λ (d, s, fresh). let derived = derivation_of t d at fact s in (derived.derivation, λ used. fresh (derived.uses g used)),
)
