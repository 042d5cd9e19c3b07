-- Rows that may have a clue.
use Rattle.std.specs.Prelude.{ℕ, List, [], ◌∷◌, Option, Some, None}
use denote.Ref.{Bor}
use Rattle.row_index.specs.declared.candidates.Candidates.{Candidates}
use Rattle.row_index.specs.declared.clues.Clues.{Clues}
use Rattle.row_index.specs.Index.{HasClue}

-- the rows, in their order, without some that don't have the clue
pub data Narrows {X : Type 0} (clues_of : X → Clues) (c : ℕ) : List X → List X → Type 0 where
  done : Narrows clues_of c [] []
  kept : {row : X} {rows some : List X} → Narrows clues_of c rows some → Narrows clues_of c (row ∷ rows) (row ∷ some)
  passed : {row : X} {rows some : List X} → (HasClue (clues_of row) c → ⊥) → Narrows clues_of c rows some → Narrows clues_of c (row ∷ rows) some

abbrev pub seen_with : {X : Type 0} → Option (Bor X) → List X → List X
seen_with None rest = rest
seen_with (Some row) rest = row.now ∷ rest

-- the candidates that are left
abbrev pub seen : {X : Type 0} → Candidates X → List X
seen candidates = seen_with candidates.near candidates.rest.now
