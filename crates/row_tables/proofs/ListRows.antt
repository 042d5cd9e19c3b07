-- One row of a list, after a row was added, and after it was changed.
use Rattle.std.proofs.Common.{◌≡◌, ℕ, zero, suc, ◌+◌, List, [], ◌∷◌, ◌++◌, length, Some, refl, subst, arith}
use Rattle.std.specs.Prelude.{slice_get, option_map}
use Rattle.share_graph.specs.Changing.{change, change_row}
use Rattle.share_graph.specs.Rows.{row}

pub last_there : {X : Type 0} (xs : List X) (x : X) → slice_get (xs ++ x ∷ []) (length xs) ≡ Some x
last_there [] x = refl
last_there (y ∷ ys) x = last_there ys x

pub row_added : {X : Type 0} (xs : List X) (x : X) (n : ℕ) → n ≡ length xs + 1 → row (xs ++ x ∷ []) n ≡ Some x
row_added xs x zero e = absurd (omega (arith, e))
row_added {X} xs x (suc k) e =
    let place : length xs ≡ k = omega (arith, e) in
    subst (λ (i : ℕ). slice_get (xs ++ x ∷ []) i ≡ Some x) place (last_there xs x)

change_there : {X : Type 0} (f : X → X) (xs : List X) (i : ℕ) → slice_get (change f xs i) i ≡ option_map f (slice_get xs i)
change_there f [] i = refl
change_there f (x ∷ xs) zero = refl
change_there f (x ∷ xs) (suc i) = change_there f xs i

pub row_changed : {X : Type 0} (f : X → X) (xs : List X) (n : ℕ) → row (change_row f xs n) n ≡ option_map f (row xs n)
row_changed f xs zero = refl
row_changed f xs (suc i) = change_there f xs i
