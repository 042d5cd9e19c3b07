-- One row of a list is changed.
use Rattle.std.specs.Prelude.{ℕ, zero, suc, List, [], ◌∷◌}

-- the row at a place, from 0
abbrev pub change : {X : Type 0} → (X → X) → List X → ℕ → List X
change f [] i = []
change f (row ∷ rows) zero = f row ∷ rows
change f (row ∷ rows) (suc i) = row ∷ change f rows i

-- row n, from 1
abbrev pub change_row : {X : Type 0} → (X → X) → List X → ℕ → List X
change_row f rows zero = rows
change_row f rows (suc i) = change f rows i
