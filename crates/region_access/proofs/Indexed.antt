-- A grant is added to an index.
use Rattle.std.proofs.Common.{◌≡◌, ◌≢◌, ◌⊎◌, ◌↔◌, ◌+◌, ◌<◌, ◌≤◌, ◌++◌, ◌∷◌, [], ℕ, List, Some, length, slice_get, Contains, refl, sym, ap, subst, inl, inr, arith}
use Rattle.std.specs.Prelude.{AllPairs}
use Rattle.std.proofs.lemmas.List.Elements.{Contains-append_left, Contains-push, Contains-push_cases, Contains-get_or}
use Rattle.std.proofs.lemmas.List.Quantifiers.{all_pairs_push}
use Rattle.host_base.specs.declared.ids.GrantId.{GrantId}
use Rattle.share_graph.specs.declared.grants.Grant.{Grant}
use Rattle.share_graph.specs.declared.state.Tables.{Tables}
use Rattle.share_graph.specs.Rows.{row, IsGrant}
use Rattle.least_access.proofs.Turns.{grant_id, numbered, row_within, row_first}
use Rattle.region_access.specs.Adding.{IsNewIn, HasSameEdges, AddsEdges}
use Rattle.region_access.specs.Indexed.{IsIndexBy}
use Rattle.region_work.proofs.Sums.{contains_none}

fresh_end : (old : List GrantId) (num : GrantId) → (Contains old num → ⊥) → AllPairs (λ (a : GrantId) (b : GrantId). a ≢ b) old → AllPairs (λ (a : GrantId) (b : GrantId). a ≢ b) (old ++ num ∷ [])
fresh_end old num fresh once =
    all_pairs_push (λ (a : GrantId) (b : GrantId). a ≢ b) old num once
    (λ k d within same. fresh (subst (λ (g : GrantId). Contains old g) same (Contains-get_or old k d within)))

pub once_after : (old new : List GrantId) (num : GrantId) → (Contains old num → ⊥) → (new ≡ old) ⊎ (new ≡ old ++ num ∷ []) → AllPairs (λ (a : GrantId) (b : GrantId). a ≢ b) old
    → AllPairs (λ (a : GrantId) (b : GrantId). a ≢ b) new
once_after old new num fresh (inl same) once = subst (λ (xs : List GrantId). AllPairs (λ (a : GrantId) (b : GrantId). a ≢ b) xs) (sym same) once
once_after old new num fresh (inr more) once = subst (λ (xs : List GrantId). AllPairs (λ (a : GrantId) (b : GrantId). a ≢ b) xs) (sym more) (fresh_end old num fresh once)

pub kept_after : (old new : List GrantId) (num g : GrantId) → (new ≡ old) ⊎ (new ≡ old ++ num ∷ []) → Contains old g → Contains new g
kept_after old new num g (inl same) c = subst (λ (xs : List GrantId). Contains xs g) (sym same) c
kept_after old new num g (inr more) c = subst (λ (xs : List GrantId). Contains xs g) (sym more) (Contains-append_left old (num ∷ []) g c)

-- ---- an index, where none, the same or one more belongs

pub index_none : {K : Type 0} (Belongs : K → GrantId → Type 0) (listed : K → List GrantId) → ((at : K) → listed at ≡ []) → ((at : K) (g : GrantId) → Belongs at g → ⊥) → IsIndexBy Belongs listed
index_none Belongs listed empty none = record {
  exact = λ at g. (λ c. absurd (contains_none g (subst (λ (xs : List GrantId). Contains xs g) (empty at) c)), λ belongs. absurd (none at g belongs));
  once = λ at. subst (λ (xs : List GrantId). AllPairs (λ (a : GrantId) (b : GrantId). a ≢ b) xs) (sym (empty at)) (λ i j d less below. absurd (omega arith));
}

pub index_same : {K : Type 0} (Before After : K → GrantId → Type 0) (old new : K → List GrantId) → IsIndexBy Before old → HasSameEdges old new → ((at : K) (g : GrantId) → After at g ↔ Before at g)
    → IsIndexBy After new
index_same Before After old new index same is = record {
  exact = λ at g. (
    λ c. (is at g).1 ((index.exact at g).0 (subst (λ (xs : List GrantId). Contains xs g) (same at) c)),
    λ belongs. subst (λ (xs : List GrantId). Contains xs g) (sym (same at)) ((index.exact at g).1 ((is at g).0 belongs)),
  );
  once = λ at. subst (λ (xs : List GrantId). AllPairs (λ (a : GrantId) (b : GrantId). a ≢ b) xs) (sym (same at)) (index.once at);
}

pub index_more : {K : Type 0} (From : K → Type 0) (num : GrantId) (Before After : K → GrantId → Type 0) (old new : K → List GrantId) → IsIndexBy Before old → IsNewIn num old → AddsEdges From num old new
    → ((at : K) (g : GrantId) → After at g ↔ (Before at g ⊎ ((g ≡ num) × From at))) → IsIndexBy After new
index_more {K} From num Before After old new index fresh edges is =
    let sides : (at : K) → (new at ≡ old at) ⊎ (new at ≡ old at ++ num ∷ []) = λ at. elim (edges.may at) [ inl same ↦ inl same | inr more ↦ inr more.1 ] in
    record {
      exact = λ at g. (
        λ c.
            elim (edges.may at) [
              | inl same ↦ (is at g).1 (inl ((index.exact at g).0 (subst (λ (xs : List GrantId). Contains xs g) same c)))
              | inr (from, more) ↦
                  elim (Contains-push_cases (old at) num g (subst (λ (xs : List GrantId). Contains xs g) more c)) [
                    | inl before ↦ (is at g).1 (inl ((index.exact at g).0 before))
                    | inr last ↦ (is at g).1 (inr (sym last, from))
                  ]
            ],
        λ belongs.
            elim ((is at g).0 belongs) [
              | inl before ↦ kept_after (old at) (new at) num g (sides at) ((index.exact at g).1 before)
              | inr (same, from) ↦
                  subst (λ (h : GrantId). Contains (new at) h) (sym same) (subst (λ (xs : List GrantId). Contains xs num) (sym (edges.all at from)) (Contains-push (old at) num))
            ],
      );
      once = λ at. once_after (old at) (new at) num (fresh at) (sides at) (index.once at);
    }

-- ---- an index of rows, row by row

-- a grant of that number is there, and is of the key
abbrev pub IsRowBy : {K : Type 0} → (K → GrantId → Grant → Type 0) → Tables → K → GrantId → Type 0
IsRowBy Of t at g = (grant : Grant) × IsGrant t g grant × Of at g grant

-- it is one of the first rows
abbrev pub IsRowBelow : {K : Type 0} → (K → GrantId → Grant → Type 0) → Tables → ℕ → K → GrantId → Type 0
IsRowBelow Of t i at g = IsRowBy Of t at g × (g.0 ≤ i)

module _ {K : Type 0} (Of : K → GrantId → Grant → Type 0) (t : Tables) where
  pub rows_none : (listed : K → List GrantId) → ((at : K) → listed at ≡ []) → IsIndexBy (IsRowBelow Of t 0) listed
  rows_none listed empty =
      index_none (IsRowBelow Of t 0) listed empty (λ at g ((grant, is, of), below). (let first : 0 < g.0 = row_first t.grants g.0 grant is in omega arith))

  -- the next number is new to an index of the rows below it
  pub rows_fresh : (i : ℕ) (listed : K → List GrantId) → IsIndexBy (IsRowBelow Of t i) listed → IsNewIn (grant_id (i + 1)) listed
  rows_fresh i listed index at has = let (is, below) = (index.exact at (grant_id (i + 1))).0 has in omega arith

  row_more : (i : ℕ) (grant : Grant) → slice_get t.grants i ≡ Some grant → (From : K → Type 0) → ((at : K) → From at ↔ Of at (grant_id (i + 1)) grant)
      → (at : K) (g : GrantId) → IsRowBelow Of t (i + 1) at g ↔ (IsRowBelow Of t i at g ⊎ ((g ≡ grant_id (i + 1)) × From at))
  row_more i grant is From each at g =
      let known : row t.grants (i + 1) ≡ Some grant = numbered t.grants i grant is in (
        λ ((other, there, of), below).
            let sides : (g.0 ≤ i) ⊎ (g.0 ≡ i + 1) = grind arith in
            elim sides [
              | inl earlier ↦ inl ((other, there, of), earlier)
              | inr last ↦
                  let num : g ≡ grant_id (i + 1) = ap (λ n. grant_id n) last in
                  let here : row t.grants (i + 1) ≡ Some other = subst (λ (n : ℕ). row t.grants n ≡ Some other) last there in
                  let one : other ≡ grant = cc in
                  inr (num, (each at).1 (subst (λ (x : Grant). Of at (grant_id (i + 1)) x) one (subst (λ (h : GrantId). Of at h other) num of)))
            ],
        elim [
          | inl ((other, there, of), below) ↦ ((other, there, of), omega arith)
          | inr (same, from) ↦
              let number = ap (λ (h : GrantId). h.0) same in
              let there : IsGrant t g grant = subst (λ (h : GrantId). IsGrant t h grant) (sym same) known in
              ((grant, there, subst (λ (h : GrantId). Of at h grant) (sym same) ((each at).0 from)), omega arith)
        ],
      )

  pub rows_more : (i : ℕ) (grant : Grant) → slice_get t.grants i ≡ Some grant → (From : K → Type 0) → ((at : K) → From at ↔ Of at (grant_id (i + 1)) grant) → (old new : K → List GrantId)
      → IsIndexBy (IsRowBelow Of t i) old → AddsEdges From (grant_id (i + 1)) old new → IsIndexBy (IsRowBelow Of t (i + 1)) new
  rows_more i grant is From each old new index edges =
      index_more From (grant_id (i + 1)) (IsRowBelow Of t i) (IsRowBelow Of t (i + 1)) old new index (rows_fresh i old index) edges (row_more i grant is From each)

  pub rows_all : (i : ℕ) (listed : K → List GrantId) → i ≡ length t.grants → IsIndexBy (IsRowBelow Of t i) listed → IsIndexBy (IsRowBy Of t) listed
  rows_all i listed end index =
      index_same (IsRowBelow Of t i) (IsRowBy Of t) listed listed index (λ at. refl)
      (λ at g. (λ (grant, is, of). ((grant, is, of), (let within = row_within t.grants g.0 grant is in omega arith)), λ (is, below). is))
