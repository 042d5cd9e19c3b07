-- A digest that no row of any kind has is unused.
use Rattle.std.proofs.Common.{◌≡◌, ◌++◌, ℕ, zero, List, [], ◌∷◌, map, Contains, Option, Some, None, slice_get, refl, sym, ◌∙◌, ap, inl, inr, arith}
use Rattle.std.specs.List.{filter_map}
use Rattle.std.specs.Option.{option_map}
use Rattle.std.proofs.lemmas.List.Elements.{Contains-append_cases, Contains-append_right}
use Rattle.std.proofs.lemmas.Option.{slice_get-map}
use Rattle.host_base.specs.declared.digest.Digest.{Digest}
use Rattle.share_graph.specs.declared.state.State.{State}
use Rattle.share_graph.specs.Keys.{IsNoneOf, HasToken}
use Rattle.share_graph.specs.Kinds.{KnownDigest, IsUnused}
use Rattle.share_graph.proofs.Apart.{logins, known_token, token_of, tokens, references, keys, run_tokens}
use Rattle.share_graph.proofs.Contained.{contains_at, only, place_of}

from_place : {X Y : Type 0} (f : X → Y) (rows : List X) (k : ℕ) (y : Y) (o : Option X) → slice_get rows k ≡ o → option_map f o ≡ Some y → (x : X) × Contains rows x × (f x ≡ y)
from_place f rows k y None is made = cc made
from_place f rows k y (Some x) is made = (x, contains_at rows k x is, cc)

-- what rows are made into, comes from one of them
pub unmapped : {X Y : Type 0} (f : X → Y) (rows : List X) (y : Y) → Contains (map f rows) y → (x : X) × Contains rows x × (f x ≡ y)
unmapped f rows y listed =
    let (k, is) = place_of (map f rows) y listed in
    from_place f rows k y (slice_get rows k) refl (sym (slice_get-map f rows k) ∙ is)

one_before : {X Y : Type 0} (f : X → Option Y) (z : X) (rows : List X) (y : Y) → (x : X) × Contains rows x × (f x ≡ Some y) → (x : X) × Contains (z ∷ rows) x × (f x ≡ Some y)
one_before f z rows y (x, listed, is) = (x, Contains-append_right (z ∷ []) rows x listed, is)

unfiltered_by : {X Y : Type 0} (f : X → Option Y) (z : X) (rows : List X) (y : Y) (o : Option Y) → f z ≡ o → (Contains (filter_map f rows) y → (x : X) × Contains rows x × (f x ≡ Some y))
    → Contains (filter_map f (z ∷ rows)) y → (x : X) × Contains (z ∷ rows) x × (f x ≡ Some y)
unfiltered_by f z rows y None is rest listed = one_before f z rows y (rest (rw is at listed))
unfiltered_by {Y = Y} f z rows y (Some v) is rest listed =
    elim (Contains-append_cases (v ∷ []) (filter_map f rows) y (rw is at listed)) [
      | inl here ↦ (z, contains_at (z ∷ rows) zero z refl, is ∙ ap (λ (w : Y). Some w) (only v y here))
      | inr later ↦ one_before f z rows y (rest later)
    ]

pub unfiltered : {X Y : Type 0} (f : X → Option Y) (rows : List X) (y : Y) → Contains (filter_map f rows) y → (x : X) × Contains rows x × (f x ≡ Some y)
unfiltered f [] y (k, less, is) = absurd (omega arith)
unfiltered f (z ∷ rows) y listed = unfiltered_by f z rows y (f z) refl (unfiltered f rows y) listed

pub token_by : (num : ℕ) (o : Option Digest) (e : KnownDigest) → option_map (λ (d : Digest). known_token num d) o ≡ Some e → o ≡ Some e.digest
token_by num None e made = cc made
token_by num (Some d) e made = let same : known_token num d ≡ e = cc in ap (λ (k : KnownDigest). Some k.digest) same

module _ (s : State) (d : Digest) where
  pub in_logins : IsNoneOf s.tables.accounts (λ row. Some row.login ≡ Some d) → (e : KnownDigest) → Contains (logins s) e → e.digest ≡ d → ⊥
  in_logins none e listed same = let (x, there, is) = unmapped _ s.tables.accounts e listed in none x there (ap (λ (k : KnownDigest). Some k.digest) is ∙ ap (λ (y : Digest). Some y) same)

  pub in_tokens : IsNoneOf s.tables.grants (HasToken d) → (e : KnownDigest) → Contains (tokens s) e → e.digest ≡ d → ⊥
  in_tokens none e listed same =
      let (x, there, is) = unfiltered token_of s.tables.grants e listed in
      none x there (token_by x.num.0 x.digest e is ∙ ap (λ (y : Digest). Some y) same)

  pub in_references : IsNoneOf s.tables.saved (λ row. Some row.digest ≡ Some d) → (e : KnownDigest) → Contains (references s) e → e.digest ≡ d → ⊥
  in_references none e listed same = let (x, there, is) = unmapped _ s.tables.saved e listed in none x there (ap (λ (k : KnownDigest). Some k.digest) is ∙ ap (λ (y : Digest). Some y) same)

  pub in_keys : IsNoneOf s.sessions (λ row. Some row.digest ≡ Some d) → (e : KnownDigest) → Contains (keys s) e → e.digest ≡ d → ⊥
  in_keys none e listed same = let (x, there, is) = unmapped _ s.sessions e listed in none x there (ap (λ (k : KnownDigest). Some k.digest) is ∙ ap (λ (y : Digest). Some y) same)

  pub in_run_tokens : IsNoneOf s.runs (λ row. Some row.digest ≡ Some d) → (e : KnownDigest) → Contains (run_tokens s) e → e.digest ≡ d → ⊥
  in_run_tokens none e listed same = let (x, there, is) = unmapped _ s.runs e listed in none x there (ap (λ (k : KnownDigest). Some k.digest) is ∙ ap (λ (y : Digest). Some y) same)

-- what is in neither of two lists is in neither after the other
pub in_both : {X : Type 0} (P : X → Type 0) (xs ys : List X) → IsNoneOf xs P → IsNoneOf ys P → IsNoneOf (xs ++ ys) P
in_both P xs ys first second x listed is = elim (Contains-append_cases xs ys x listed) [ inl here ↦ first x here is | inr later ↦ second x later is ]

pub unused : (s : State) (d : Digest) → IsNoneOf s.tables.accounts (λ row. Some row.login ≡ Some d) → IsNoneOf s.tables.grants (HasToken d) → IsNoneOf s.tables.saved (λ row. Some row.digest ≡ Some d) → IsNoneOf s.sessions (λ row. Some row.digest ≡ Some d) → IsNoneOf s.runs (λ row. Some row.digest ≡ Some d) → IsUnused s d
unused s d no_login no_token no_reference no_key no_run_token k n known =
    let P : KnownDigest → Type 0 = λ e. e.digest ≡ d in
    in_both P (logins s ++ tokens s ++ references s ++ keys s) (run_tokens s)
    (in_both P (logins s ++ tokens s ++ references s) (keys s)
    (in_both P (logins s ++ tokens s) (references s)
    (in_both P (logins s) (tokens s) (in_logins s d no_login) (in_tokens s d no_token))
    (in_references s d no_reference))
    (in_keys s d no_key))
    (in_run_tokens s d no_run_token)
    (record { kind = k; num = n; digest = d }) known refl
