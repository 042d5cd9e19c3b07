-- Everything is a region that nothing held before.
use Rattle.std.proofs.Common.{◌≡◌, ◌⊎◌, ◌+◌, ◌<◌, ◌≤◌, ◌++◌, ◌∷◌, [], ℕ, zero, suc, List, Some, length, slice_get, Contains, refl, sym, ◌∙◌, ap, subst, inl, inr, arith}
use Rattle.std.proofs.lemmas.List.Elements.{Contains-append_left, Contains-push}
use Rattle.host_base.specs.declared.ids.GrainId.{GrainId}
use Rattle.host_base.specs.declared.ids.GrantId.{GrantId}
use Rattle.share_graph.specs.declared.facts.Fact.{Fact}
use Rattle.share_graph.specs.declared.facts.Node.{Node}
use Rattle.share_graph.specs.declared.facts.Node.TheVariants as node
use Rattle.share_graph.specs.declared.grants.Grant.{Grant}
use Rattle.share_graph.specs.declared.rows.Grain.{Grain}
use Rattle.share_graph.specs.declared.state.Tables.{Tables}
use Rattle.share_graph.specs.Coherent.{IsCoherent}
use Rattle.share_graph.specs.Derivation.{Derivation, own, via, site}
use Rattle.share_graph.specs.Nodes.{node_of}
use Rattle.share_graph.specs.Rows.{row, IsGrain, IsGrant}
use Rattle.least_access.specs.Solved.{Table}
use Rattle.least_access.proofs.Following.{node_of_site}
use Rattle.least_access.proofs.Turns.{numbered, row_within, row_first}
use Rattle.region_work.specs.Emptying.{IsEmptyAt}
use Rattle.region_work.specs.Prepared.{IsPrepared}

-- ---- lists of rows, row by row

abbrev pub owner_at : ℕ → Grain → Node
owner_at n grain = node.User (record { 0 = n }) grain.owner

abbrev pub grant_at : ℕ → Grant → Node
grant_at n grant = node_of (record { 0 = n }) grant

-- what is so of the first rows
pub record ListedBelow {X Y : Type 0} (rows : List X) (of : ℕ → X → Y) (ys : List Y) (i : ℕ) : Type 0 where
  pub all : (n : ℕ) (x : X) → n ≤ i → row rows n ≡ Some x → Contains ys (of n x)

pub listed_none : {X Y : Type 0} (rows : List X) (of : ℕ → X → Y) (ys : List Y) → ListedBelow rows of ys 0
listed_none rows of ys = record { all = λ n x none is. let first : 0 < n = row_first rows n x is in absurd (omega arith) }

pub listed_one : {X Y : Type 0} (rows : List X) (of : ℕ → X → Y) (ys : List Y) (i : ℕ) (x : X) → slice_get rows i ≡ Some x → ListedBelow rows of ys i
    → ListedBelow rows of (ys ++ of (i + 1) x ∷ []) (i + 1)
listed_one rows of ys i x is so_far = record {
  all = λ n other below there.
      let sides : (n ≤ i) ⊎ (n ≡ i + 1) = grind arith in
      elim sides [
        | inl earlier ↦ Contains-append_left ys (of (i + 1) x ∷ []) (of n other) (so_far.all n other earlier there)
        | inr last ↦
            let here : row rows (i + 1) ≡ Some other = subst (λ (k : ℕ). row rows k ≡ Some other) last there in
            let known : row rows (i + 1) ≡ Some x = numbered rows i x is in
            let one : x ≡ other = cc in
            let same : of (i + 1) x ≡ of n other = ap (λ (k : ℕ). of k x) (sym last) ∙ ap (of n) one in
            subst (λ (y : _). Contains (ys ++ of (i + 1) x ∷ []) y) same (Contains-push ys (of (i + 1) x))
      ];
}

pub listed_all : {X Y : Type 0} (rows : List X) (of : ℕ → X → Y) (ys : List Y) (i : ℕ) → ListedBelow rows of ys i → i ≡ length rows
    → (n : ℕ) (x : X) → row rows n ≡ Some x → Contains ys (of n x)
listed_all rows of ys i done end n x is = done.all n x (let within = row_within rows n x is in omega arith) is

-- ---- nothing holds where there are no rows

abbrev pub no_tables : Tables
no_tables = record { accounts = []; apps = []; grains = []; grants = []; saved = []; moment = 0 }

no_row : {X : Type 0} (n : ℕ) (x : X) → row [] n ≡ Some x → ⊥
no_row zero x is = cc is
no_row (suc n) x is = cc is

no_derivation : {at : Node} {fact : Fact} → Derivation no_tables at fact → ⊥
no_derivation (own {n = n} {grain = grain} o is) = no_row n.0 grain o.is_row
no_derivation (via {g = g} {grant = grant} p s d now needs) = no_row g.0 grant p.is_live.is_row
no_derivation (site {g = g} {grant = grant} o s now needs) = no_row g.0 grant o.is_live.is_row

-- an empty table is prepared for any tables, where the nodes are all that owners and grants have
pub everything : (u : Tables) (nodes : List Node) (table : Table) → IsCoherent u
    → ((n : GrainId) (grain : Grain) → IsGrain u n grain → Contains nodes (node.User n grain.owner))
    → ((g : GrantId) (grant : Grant) → IsGrant u g grant → Contains nodes (node_of g grant))
    → IsEmptyAt nodes table → IsPrepared u nodes table
everything u nodes table coherent owners grants empty = record {
  tables = no_tables;
  start = table;
  solved = λ at fact. (λ h. absurd (empty.nothing at fact h), λ d. absurd (no_derivation d));
  clears = record {
    places = λ at inside. (empty.places at).1 inside;
    nothing = λ at fact inside h. empty.nothing at fact h;
    others = λ at out. refl;
  };
  touches = record {
    coherent = record {
      apps = λ p app is. absurd (no_row p.0 app is);
      grains = λ n grain is. absurd (no_row n.0 grain is);
      grants = λ g grant is. absurd (no_row g.0 grant is);
    };
    closed = λ from g grant is feeds inside. absurd (no_row g.0 grant is);
    closed_after = λ from g grant is feeds inside. grants g grant is;
    there = record {
      owned = λ n grain fact out (app, o, is). absurd (no_row n.0 grain o.is_row);
      passed = λ g grant fact out p. absurd (no_row g.0 grant p.is_live.is_row);
      asked = λ g grant q out is c now. absurd (no_row g.0 grant is);
      asked_of_site = λ g grant q out is none c now. absurd (no_row g.0 grant is);
      opened = λ g grant out none o. absurd (no_row g.0 grant o.is_live.is_row);
    };
    back = record {
      owned = λ n grain fact out (app, o, is). absurd (out (owners n grain o.is_row));
      passed = λ g grant fact out p. absurd (out (grants g grant p.is_live.is_row));
      asked = λ g grant q out is c now. absurd (out (grants g grant is));
      asked_of_site = λ g grant q out is none c now. absurd (out (subst (λ (n : Node). Contains nodes n) (sym (node_of_site u coherent g grant is none)) (grants g grant is)));
      opened = λ g grant out none o. absurd (out (subst (λ (n : Node). Contains nodes n) (sym (node_of_site u coherent g grant o.is_live.is_row none)) (grants g grant o.is_live.is_row)));
    };
  };
}

-- a number within the rows is a row's
pub row_there : {X : Type 0} (rows : List X) (n : ℕ) → 0 < n → n ≤ length rows → (x : X) × (row rows n ≡ Some x)
row_there rows zero first within = absurd (omega arith)
row_there [] (suc n) first within = absurd (omega arith)
row_there (x ∷ rows) (suc zero) first within = (x, refl)
row_there (x ∷ rows) (suc (suc n)) first within = row_there rows (suc n) (omega arith) (omega arith)
