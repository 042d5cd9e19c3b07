-- Where the ways of rows lead that stand under other rows.
use Rattle.std.specs.Prelude.{◌≡◌, ◌<◌, ◌≤◌, ◌||◌, ℕ, suc, nat_eq, Bool, true, List, Option, Some, None, length, slice_get, is_some}
use Rattle.std.specs.HashMap.{get}
use Rattle.row_index.specs.declared.ways.Link.{Link}
use Rattle.row_index.specs.declared.ways.Way.{Way}
use Rattle.row_index.specs.declared.ways.Ways.{Ways}

-- the way of the row of a number, from 1, leads by earlier rows to the row of a number, and some row on it is flagged or none is
pub data Leads (links : List Link) : ℕ → ℕ → Bool → Type 0 where
  ends : {place : ℕ} {link : Link} → slice_get links place ≡ Some link → link.parent ≡ None → Leads links (suc place) (suc place) link.flagged
  goes : {place parent root : ℕ} {link : Link} {flagged : Bool} → slice_get links place ≡ Some link → link.parent ≡ Some parent → parent ≤ place
      → Leads links parent root flagged → Leads links (suc place) root (link.flagged || flagged)

-- what is known of ways is so, and of each of the first rows that stands under another the way is known, if it leads by earlier rows
pub record AreWaysOf (links : List Link) (ways : Ways) : Type 0 where
  pub within : ways.covered ≤ length links
  pub so : (n : ℕ) (way : Way) → get nat_eq ways.ends n ≡ Some way → Leads links n way.root way.flagged
  pub known : (place root parent : ℕ) (link : Link) (flagged : Bool) → place < ways.covered → slice_get links place ≡ Some link → link.parent ≡ Some parent
      → Leads links (suc place) root flagged → is_some (get nat_eq ways.ends (suc place)) ≡ true

-- the way of the next row, through the one that it stands under
abbrev pub IsNext : List Link → Ways → Option Way → Type 0
IsNext links ways (Some way) = Leads links (suc ways.covered) way.root way.flagged
IsNext links ways None = (root parent : ℕ) (link : Link) (flagged : Bool) → slice_get links ways.covered ≡ Some link → link.parent ≡ Some parent
    → Leads links (suc ways.covered) root flagged → ⊥
