-- What a history begins with that is opened on the rows of a keeper.
use Rattle.std.specs.Prelude.{◌≡◌, IsTrue, List, [], Some, Ok}
use Rattle.hub_core.specs.Terms.{BadRow, GivesTables, IsBadRow, Keeping, Row, State, Tables}

-- the state that a server begins with: the tables, without sessions, runs and handles
abbrev pub opened : Tables → State
opened t = record { tables = t; sessions = []; runs = []; handles = [] }

-- These rows are a keeper's, where it tells them and its store is clean still.
abbrev pub AreOfKeeper : Keeping → Keeping → List Row → Type 0
AreOfKeeper keeping now rows = IsTrue now.clean → (kept : List Row) → keeping.rows ≡ Some kept → rows ≡ kept

-- The tables are those that the keeper's rows state.
pub record AreLoaded (keeping now : Keeping) (t : Tables) : Type 0 where
  pub rows : List Row
  pub told : AreOfKeeper keeping now rows
  pub read : GivesTables (Ok t) rows

-- The keeper's rows have this bad row, which is the first.
pub record HasBadRow (keeping now : Keeping) (bad : BadRow) : Type 0 where
  pub rows : List Row
  pub told : AreOfKeeper keeping now rows
  pub first : IsBadRow rows bad
