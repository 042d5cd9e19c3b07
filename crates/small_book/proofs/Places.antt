-- What is so of each row of a short list is so of the row at a place.
use Rattle.std.proofs.Common.{◌≡◌, ℕ, zero, suc, List, [], ◌∷◌, Some, slice_get, subst}

-- so of each row at its place, from 0
abbrev pub AreAt : {X : Type 0} → (ℕ → X → Type 0) → List X → Type 0
AreAt P [] = Unit {0}
AreAt P (x ∷ xs) = P 0 x × AreAt (λ k. P (suc k)) xs

pub at_each : {X : Type 0} (P : ℕ → X → Type 0) (rows : List X) → AreAt P rows → (k : ℕ) (row : X) → slice_get rows k ≡ Some row → P k row
at_each P [] all k row is = cc is
at_each P (x ∷ xs) all zero row is = let same : x ≡ row = cc in subst (P 0) same all.0
at_each P (x ∷ xs) all (suc k) row is = at_each (λ i. P (suc i)) xs all.1 k row is
