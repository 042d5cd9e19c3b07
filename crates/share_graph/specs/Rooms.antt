-- Rows with an index, and room in a list that grows to twice its length where that is a power of two.
use Rattle.std.specs.Prelude.{◌≡◌, ◌<◌, ◌≤◌, ◌+◌, ◌*◌, ◌^◌, ℕ, Bool, false, Option, Some, None, [], length, map, vec_len, vec_capacity}
use Rattle.std.specs.Global.{Vec}
use Rattle.row_index.specs.declared.clues.Clues.{Clues}
use Rattle.row_index.specs.declared.index.Index.{Index}
use Rattle.row_index.specs.declared.ways.Link.{Link}
use Rattle.row_index.specs.declared.ways.Ways.{Ways}
use Rattle.row_index.specs.Index.{IsIndexOf}
use Rattle.row_index.specs.Ways.{AreWaysOf}

-- the number lies between two neighbouring powers of two
abbrev pub IsBetweenPowers : ℕ → Type 0
IsBetweenPowers n = (k : ℕ) × (2 ^ k < n) × (n < 2 * 2 ^ k)

-- the capacity holds so many rows, and twice each power of two below their number
abbrev pub HasRoom : ℕ → ℕ → Type 0
HasRoom n capacity = (n ≤ capacity) × ((k : ℕ) → 2 ^ k < n → 2 * 2 ^ k ≤ capacity)

-- room for one row more beside so many: a list that lies between two powers has it, and any other grows into this one
abbrev pub IsRoomBeside : {T : Type 0} → ℕ → Option (Vec T) → Type 0
IsRoomBeside n None = IsBetweenPowers n
IsRoomBeside n (Some vec) = (vec.items ≡ []) × HasRoom (n + 1) (vec_capacity vec)

-- of so many rows the index and the ways cover all, unless memory ran out
abbrev pub CoverAll : Bool → ℕ → Index → Ways → Type 0
CoverAll starved n index ways = starved ≡ false → (index.covered ≡ n) × (ways.covered ≡ n)

-- a list that has room, the index of its rows, and where their ways lead
pub record IsRowsOf {T : Type 0} (clues_of : T → Clues) (mark_of : T → Option ℕ) (link_of : T → Link) (items : Vec T) (index : Index) (ways : Ways) (starved : Bool) : Type 0 where
  pub room : HasRoom (vec_len items) (vec_capacity items)
  pub index_of : IsIndexOf clues_of items.items mark_of index
  pub ways_of : AreWaysOf (map link_of items.items) ways
  pub all : CoverAll starved (length items.items) index ways
