-- Walks over rows, in order, of which something was so at each place so far.
use Rattle.std.proofs.Common.{◌≡◌, ◌≤◌, ◌<◌, ◌⊎◌, ◌+◌, ℕ, List, Some, length, slice_get, inl, inr, sym, subst, arith}
use Rattle.std.proofs.lemmas.Bool.{cases_lt}
use Rattle.std.proofs.lemmas.Option.{slice_get_within}

-- it is so of each row
abbrev pub AtEach : {X : Type 0} → List X → (ℕ → X → Type 0) → Type 0
AtEach {X} rows P = (k : ℕ) (row : X) → slice_get rows k ≡ Some row → P k row

-- it is so of each row before a place
abbrev pub AtEachBelow : {X : Type 0} → List X → (ℕ → X → Type 0) → ℕ → Type 0
AtEachBelow {X} rows P i = (k : ℕ) (row : X) → k < i → slice_get rows k ≡ Some row → P k row

-- one row more
pub one_more : {X : Type 0} (rows : List X) (P : ℕ → X → Type 0) (i : ℕ) (row : X) → slice_get rows i ≡ Some row → P i row → AtEachBelow rows P i → AtEachBelow rows P (i + 1)
one_more rows P i row there sound below k other less is = case_of (cases_lt k i)
  where
    case_of : (k < i) ⊎ (i ≤ k) → P k other
    case_of (inl earlier) = below k other earlier is
    case_of (inr late) = let same : k ≡ i = grind (arith) in let one : row ≡ other = cc in subst (λ (n : ℕ). P n other) (sym same) (subst (λ (x : _). P i x) one sound)

-- the end of the walk
pub at_end : {X : Type 0} (rows items : List X) (P : ℕ → X → Type 0) (i : ℕ) → items ≡ rows → length items ≤ i → AtEachBelow rows P i → AtEach rows P
at_end rows items P i same end below k row is = let less : k < length rows = slice_get_within rows k row is in let long : length items ≡ length rows = cc in below k row (grind (arith)) is
