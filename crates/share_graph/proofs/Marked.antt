-- What a change of one row leaves and changes.
use Rattle.std.proofs.Common.{◌≡◌, ◌≢◌, ◌⊎◌, ℕ, zero, suc, ◌<◌, List, [], ◌∷◌, Some, slice_get, true, refl, ap, arith}
use Rattle.share_graph.specs.declared.grants.Grant.{Grant}
use Rattle.share_graph.specs.Rows.{row}
use Rattle.share_graph.specs.Changing.{change, change_row}
use Rattle.share_graph.specs.Setting.{revoked}

change_other : {X : Type 0} (f : X → X) (xs : List X) (i k : ℕ) → k ≢ i → slice_get (change f xs i) k ≡ slice_get xs k
change_other f [] i k h = refl
change_other f (x ∷ xs) zero zero h = absurd (h refl)
change_other f (x ∷ xs) zero (suc k) h = refl
change_other f (x ∷ xs) (suc i) zero h = refl
change_other f (x ∷ xs) (suc i) (suc k) h = change_other f xs i k (λ e. h (ap suc e))

pub change_row_other : {X : Type 0} (f : X → X) (xs : List X) (n k : ℕ) → k ≢ n → row (change_row f xs n) k ≡ row xs k
change_row_other f xs zero k h = refl
change_row_other f xs (suc i) zero h = refl
change_row_other f xs (suc i) (suc k) h = change_other f xs i k (λ e. h (ap suc e))

-- the row of the number is the changed one
changed : {X : Type 0} (f : X → X) (xs : List X) (i : ℕ) (x : X) → slice_get xs i ≡ Some x → slice_get (change f xs i) i ≡ Some (f x)
changed f [] i x is = cc is
changed f (y ∷ xs) zero x is = let e : y ≡ x = cc is in ap (λ (z : _). Some (f z)) e
changed f (y ∷ xs) (suc i) x is = changed f xs i x is

pub row_changed : {X : Type 0} (f : X → X) (xs : List X) (n : ℕ) (x : X) → row xs n ≡ Some x → row (change_row f xs n) n ≡ Some (f x)
row_changed f xs zero x is = cc is
row_changed f xs (suc i) x is = changed f xs i x is

changed_back : {X : Type 0} (f : X → X) (xs : List X) (i : ℕ) (y : X) → slice_get (change f xs i) i ≡ Some y → (x : X) × (slice_get xs i ≡ Some x) × (f x ≡ y)
changed_back f [] i y is = cc is
changed_back f (x ∷ xs) zero y is = (x, refl, cc is)
changed_back f (x ∷ xs) (suc i) y is = changed_back f xs i y is

pub row_changed_back : {X : Type 0} (f : X → X) (xs : List X) (n : ℕ) (y : X) → row (change_row f xs n) n ≡ Some y → (x : X) × (row xs n ≡ Some x) × (f x ≡ y)
row_changed_back f xs zero y is = cc is
row_changed_back f xs (suc i) y is = changed_back f xs i y is

-- two numbers are one, or not
pub same_number : (m n : ℕ) → (m ≡ n) ⊎ (m ≢ n)
same_number m n = grind arith

mark_same : (xs : List Grant) (i : ℕ) (y : Grant) → slice_get (change revoked xs i) i ≡ Some y → y.revoked ≡ true
mark_same [] i y h = cc
mark_same (x ∷ xs) zero y h = let e : revoked x ≡ y = cc in rw (← e) refl
mark_same (x ∷ xs) (suc i) y h = mark_same xs i y h

pub mark_row_same : (xs : List Grant) (n : ℕ) (y : Grant) → 0 < n → row (change_row revoked xs n) n ≡ Some y → y.revoked ≡ true
mark_row_same xs zero y h is = absurd (omega arith)
mark_row_same xs (suc i) y h is = mark_same xs i y is
