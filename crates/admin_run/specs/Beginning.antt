-- What `serve` begins with.
use Rattle.std.specs.Prelude.{◌≡◌, ◌≢◌, IsTrue, ◌≤◌, ◌⊎◌, ℕ, List, [], Option, None, Some}
use Rattle.admin_run.specs.Terms.{AreLoaded, BadRow, Coming, Drawer, DrewOneAtMost, first_tables, HasBadRow, IsStored, IsTokenOfNext, IsWellFormed, Keeping, opened, Rose, Row, RowsFollow, Tables}

-- this holds of a keeper's rows, where it told them and its store is clean still
abbrev pub HadRows : Keeping → Keeping → (List Row → Type 0) → Type 0
HadRows keeping now are = IsTrue now.clean → (rows : List Row) → keeping.rows ≡ Some rows → are rows

-- WHAT IT BEGINS WITH: the tables that the keeper's rows state; or where there are none, those with the first account alone, whose login is a token.
abbrev pub BeginsWith : Keeping → Keeping → Tables → Option (List ℕ) → Type 0
BeginsWith keeping now tables None = HadRows keeping now (λ rows. rows ≢ []) × AreLoaded keeping now tables
BeginsWith keeping now tables (Some token) =
    HadRows keeping now (λ rows. rows ≡ []) × (tables ≡ first_tables token)

-- that token is the first of the secrets to come, and where there is none no secret was drawn
abbrev pub DrewLogin : Option (List ℕ) → Option Coming → Option Coming → Type 0
DrewLogin None coming rest = rest ≡ coming
DrewLogin (Some token) coming rest = IsTokenOfNext coming rest token

-- It begins with tables, which are well formed, and the keeper has them.
pub record Begins (keeping keeping' : Keeping) (drawer drawer' : Drawer) (tables : Tables)
    (login : Option (List ℕ)) : Type 0 where
  pub with : BeginsWith keeping keeping' tables login
  pub formed : IsWellFormed (opened tables)
  pub stored : IsStored keeping' tables
  pub drew : DrewLogin login drawer.coming drawer'.coming
  pub store_counts : keeping.faults ≤ keeping'.faults
  pub clean : IsTrue keeping'.clean → IsTrue keeping.clean
  pub secrets_count : drawer.faults ≤ drawer'.faults

-- IT CAN'T BEGIN: the keeper failed or the secrets did, which was counted, a row is bad, or memory ran out. The keeper's rows stay as they were, and one
-- secret was drawn at the most.
pub record CannotBegin (keeping keeping' : Keeping) (drawer drawer' : Drawer) (status : ℕ) : Type 0 where
  pub cause : ((status ≡ 9) × (Rose keeping.faults keeping'.faults ⊎ Rose drawer.faults drawer'.faults))
      ⊎ (((status ≡ 10) × ((bad : BadRow) × HasBadRow keeping keeping' bad)) ⊎ (status ≡ 7))
  pub kept : RowsFollow keeping keeping' (λ rows. rows)
  pub drawn : DrewOneAtMost drawer.coming drawer'.coming
