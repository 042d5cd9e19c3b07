-- Rows with one more at their end.
use Rattle.std.proofs.Common.{◌≡◌, ◌≢◌, ◌⊎◌, ◌+◌, ◌≤◌, ℕ, zero, suc, List, [], ◌∷◌, ◌++◌, Some, length, slice_get, refl, ap, inl, inr, arith, add-one}
use Rattle.share_graph.specs.Rows.{row}
use Rattle.share_graph.specs.WellFormed.{AreNumbered}
use Rattle.least_access.proofs.Turns.{row_within}
use Rattle.state_step.proofs.Each.{push_cases}

push_new : {X : Type 0} (xs : List X) (y : X) → slice_get (xs ++ y ∷ []) (length xs) ≡ Some y
push_new [] y = refl
push_new (x ∷ xs) y = push_new xs y

push_other : {X : Type 0} (xs : List X) (y : X) (k : ℕ) → k ≢ length xs → slice_get (xs ++ y ∷ []) k ≡ slice_get xs k
push_other [] y zero apart = absurd (apart refl)
push_other [] y (suc k) apart = refl
push_other (x ∷ xs) y zero apart = refl
push_other (x ∷ xs) y (suc k) apart = push_other xs y k (λ e. apart (ap suc e))

-- the new row has the next number
pub row_new : {X : Type 0} (xs : List X) (y : X) → row (xs ++ y ∷ []) (length xs + 1) ≡ Some y
row_new xs y = rw add-one (push_new xs y)

-- the other numbers have the rows that they had
pub row_before : {X : Type 0} (xs : List X) (y : X) (n : ℕ) → n ≢ length xs + 1 → row (xs ++ y ∷ []) n ≡ row xs n
row_before xs y zero apart = refl
row_before xs y (suc k) apart = push_other xs y k (λ e. apart (omega arith))

-- a row is one that was there, or the new one
pub row_pushed : {X : Type 0} (xs : List X) (y : X) (n : ℕ) (z : X) → row (xs ++ y ∷ []) n ≡ Some z → (row xs n ≡ Some z) ⊎ ((n ≡ length xs + 1) × (y ≡ z))
row_pushed xs y zero z is = cc is
row_pushed xs y (suc k) z is = elim (push_cases xs y k z is) [ inl (less, there) ↦ inl there | inr (last, same) ↦ inr (omega arith, same) ]

-- no row has the next number
pub none_next : {X : Type 0} (xs : List X) (n : ℕ) (x : X) → n ≡ length xs + 1 → row xs n ≡ Some x → ⊥
none_next xs n x next is = let within : n ≤ length xs = row_within xs n x is in omega arith

-- where rows are numbered, the last has the number of its place
pub next_number : {X : Type 0} (num : X → ℕ) (xs : List X) (y : X) → AreNumbered num (xs ++ y ∷ []) → num y ≡ length xs + 1
next_number num xs y numbered = numbered (length xs) y (push_new xs y)
