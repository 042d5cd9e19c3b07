-- The places of rows by a mark that they have.
use Rattle.std.specs.Prelude.{◌≡◌, ◌<◌, ◌+◌, ◌-◌, length, slice_get, ◌++◌, ℕ, zero, suc, nat_eq, is_some, true, List, [], ◌∷◌, Option, Some, None, not, Bool, false}
use Rattle.std.specs.Global.{Vec}
use Rattle.std.specs.List.{filter}
use Rattle.std.specs.HashMap.{get}
use Rattle.row_index.specs.declared.marks.Marks.{Marks}

abbrev pub items_of : Option (Vec ℕ) → List ℕ
items_of None = []
items_of (Some vec) = vec.items

-- the places of a mark
abbrev pub places_at : Marks → ℕ → List ℕ
places_at marks m = items_of (get nat_eq marks.places m)

abbrev pub KeepsPlaces : Marks → Marks → Type 0
KeepsPlaces before after = (m : ℕ) → places_at after m ≡ places_at before m

-- the mark has one place more, and the others keep theirs
pub record NotesPlace (before after : Marks) (mark place : ℕ) : Type 0 where
  pub its : places_at after mark ≡ places_at before mark ++ place ∷ []
  pub others : (m : ℕ) → nat_eq mark m ≡ false → places_at after m ≡ places_at before m

pub record KeepsMarks (before after : Marks) : Type 0 where
  pub places : KeepsPlaces before after
  pub count : after.count ≡ before.count

-- the row of a place has the mark, if it is one
abbrev pub NotesMark : Marks → Marks → Option ℕ → ℕ → Type 0
NotesMark before after None place = KeepsMarks before after
NotesMark before after (Some mark) place = NotesPlace before after mark place × (after.count ≡ before.count + 1)

-- the mark has the place no longer, the others keep theirs, and there are as many places fewer
pub record ForgetsPlace (before after : Marks) (mark place : ℕ) : Type 0 where
  pub its : places_at after mark ≡ filter (λ other. not (nat_eq other place)) (places_at before mark)
  pub others : (m : ℕ) → nat_eq mark m ≡ false → places_at after m ≡ places_at before m
  pub count : after.count ≡ before.count - (length (places_at before mark) - length (places_at after mark))

-- the mark is this one
abbrev pub has_mark : ℕ → Option ℕ → Bool
has_mark m None = false
has_mark m (Some mark) = nat_eq mark m

abbrev pub cons_if : Bool → ℕ → List ℕ → List ℕ
cons_if true place places = place ∷ places
cons_if false place places = places

abbrev pub add_if : Bool → ℕ → ℕ
add_if true n = suc n
add_if false n = n

module _ {X : Type 0} (mark_of : X → Option ℕ) where
  -- the places of those of the first k rows that have the mark, where the first row stands at n
  abbrev pub marked : ℕ → ℕ → ℕ → List X → List ℕ
  marked m n zero rows = []
  marked m n (suc k) [] = []
  marked m n (suc k) (row ∷ rows) = cons_if (has_mark m (mark_of row)) n (marked m (suc n) k rows)

  -- how many of the first k rows have a mark
  abbrev pub counted : ℕ → List X → ℕ
  counted zero rows = 0
  counted (suc k) [] = 0
  counted (suc k) (row ∷ rows) = add_if (is_some (mark_of row)) (counted k rows)

  -- for each mark, its places among the first k rows
  pub record AreMarksOf (rows : List X) (k : ℕ) (marks : Marks) : Type 0 where
    pub places : (m : ℕ) → places_at marks m ≡ marked m 0 k rows
    pub count : marks.count ≡ counted k rows

  -- none of the first k rows has the mark
  abbrev pub NoneHasMark : ℕ → List X → ℕ → Type 0
  NoneHasMark m rows k = (place : ℕ) (row : X) → place < k → slice_get rows place ≡ Some row → has_mark m (mark_of row) ≡ false

  -- the row of the place has the mark, and none before it
  pub record IsFirstMarked (m : ℕ) (rows : List X) (place : ℕ) : Type 0 where
    pub row : X
    pub there : slice_get rows place ≡ Some row
    pub has : has_mark m (mark_of row) ≡ true
    pub before : NoneHasMark m rows place
