-- What an index of rows says.
use Rattle.std.specs.Prelude.{◌≡◌, ◌⊎◌, ◌<◌, ◌≤◌, ℕ, nat_eq, List, Option, Some, length, slice_get}
use Rattle.std.specs.declared.hash.FoldHasher.{FoldHasher}
use Rattle.std.specs.declared.hash.BuildHasherDefault.{BuildHasherDefault}
use Rattle.std.specs.HashMap.{HashMap, get}
use Rattle.row_index.specs.declared.clues.Clues.{Clues}
use Rattle.row_index.specs.declared.index.Index.{Index}
use Rattle.row_index.specs.declared.index.Slot.{Slot}
use Rattle.row_index.specs.Marks.{AreMarksOf}
use Rattle.row_index.specs.declared.index.Slot.TheVariants.{Only, From}

-- one of a row's clues
abbrev pub HasClue : Clues → ℕ → Type 0
HasClue clues c = (clues.first ≡ Some c) ⊎ (clues.second ≡ Some c) ⊎ (clues.third ≡ Some c)

abbrev pub Slots : Type 0
Slots = HashMap ℕ Slot (BuildHasherDefault FoldHasher)

-- a place is found at a slot: it alone, or with others from one on
abbrev pub IsFoundAt : Slot → ℕ → Type 0
IsFoundAt (Only at) place = at ≡ place
IsFoundAt (From first) place = first ≤ place

-- a place is found by a clue
pub record IsNoted (slots : Slots) (place c : ℕ) : Type 0 where
  pub slot : Slot
  pub there : get nat_eq slots c ≡ Some slot
  pub found : IsFoundAt slot place

module _ {X : Type 0} (clues_of : X → Clues) (rows : List X) where
  -- what was found by a clue that its row has is found by it
  abbrev pub StaysNoted : Slots → Slots → Type 0
  StaysNoted before after = (place : ℕ) (row : X) (c : ℕ) → slice_get rows place ≡ Some row → HasClue (clues_of row) c → IsNoted before place c → IsNoted after place c

  -- at the slot a place is found, and each other one that was found by the clue and whose row has it
  pub record IsSlotFor (slots : Slots) (place c : ℕ) (slot : Slot) : Type 0 where
    pub its : IsFoundAt slot place
    pub others : (other : ℕ) (row : X) → slice_get rows other ≡ Some row → HasClue (clues_of row) c → IsNoted slots other c → IsFoundAt slot other

  -- each of the first rows is found by each of its clues, and is among the places of its mark
  pub record IsIndexOf (mark_of : X → Option ℕ) (index : Index) : Type 0 where
    pub within : index.covered ≤ length rows
    pub noted : (place : ℕ) (row : X) (c : ℕ) → place < index.covered → slice_get rows place ≡ Some row → HasClue (clues_of row) c → IsNoted index.slots place c
    pub marked : AreMarksOf mark_of rows index.covered index.marks

  -- the same, but that the row of one place need not be found by its clues
  pub record IsIndexBut (mark_of : X → Option ℕ) (but : ℕ) (index : Index) : Type 0 where
    pub within : index.covered ≤ length rows
    pub noted : (place : ℕ) (row : X) (c : ℕ) → place < index.covered → (place ≡ but → ⊥) → slice_get rows place ≡ Some row → HasClue (clues_of row) c → IsNoted index.slots place c
    pub marked : AreMarksOf mark_of rows index.covered index.marks
