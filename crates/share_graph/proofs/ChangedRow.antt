use Rattle.std.proofs.Common.{arith, ◌≡◌, ◌<◌, ◌+◌, ◌⊎◌, ℕ, zero, suc, List, [], ◌∷◌, length, slice_index_or, slice_set, refl, ap, sym, inl, inr}
use Rattle.share_graph.specs.Changing.{change, change_row}

-- a row written where one stands is a change of that row
pub set_changes : {X : Type 0} (f : X → X) (rows : List X) (i : ℕ) (row : X) → row ≡ slice_index_or rows i row → slice_set rows i (f row) ≡ change f rows i
set_changes f [] i row is = refl
set_changes f (first ∷ rows) zero row is = ap (λ x. f x ∷ rows) is
set_changes f (first ∷ rows) (suc i) row is = ap (λ xs. first ∷ xs) (set_changes f rows i row is)

pub sets_row : {X : Type 0} (f : X → X) (rows : List X) (n i : ℕ) (row : X) → n ≡ i + 1 → row ≡ slice_index_or rows i row → slice_set rows i (f row) ≡ change_row f rows n
sets_row f rows n i row place is =
    let next : n ≡ suc i = omega (arith, place) in
    rw next (set_changes f rows i row is)

-- past the end nothing changes
pub change_past : {X : Type 0} (f : X → X) (rows : List X) (i : ℕ) → length rows < i + 1 → change f rows i ≡ rows
change_past f [] i past = refl
change_past f (row ∷ rows) zero past = absurd (omega (arith, past))
change_past f (row ∷ rows) (suc i) past = ap (λ xs. row ∷ xs) (change_past f rows i (omega (arith, past)))

pub sets_nothing : {X : Type 0} (f : X → X) (rows : List X) (n : ℕ) → (n ≡ 0) ⊎ (length rows < n) → rows ≡ change_row f rows n
sets_nothing f rows zero none = refl
sets_nothing f rows (suc i) (inl none) = absurd (omega (arith, none))
sets_nothing f rows (suc i) (inr past) = sym (change_past f rows i (omega (arith, past)))
