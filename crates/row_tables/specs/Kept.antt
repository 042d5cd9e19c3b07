-- Rows that are kept for tables.
use Rattle.std.specs.Prelude.{◌≡◌, List, Option, Some, None}
use Rattle.share_graph.specs.declared.state.Tables.{Tables}
use Rattle.cloud_keeper.specs.declared.row.Row.{Row}
use Rattle.cloud_keeper.specs.Keeping.{Keeping, put}
use Rattle.row_tables.specs.TablesRows.{HaveRows, rows_of}

-- THESE ARE THE ROWS OF THE TABLES, of which the moment is none: each fits its format, so they are read back.
pub record AreRowsOf (t : Tables) (rows : List Row) : Type 0 where
  pub have : HaveRows t
  pub rows_are : rows ≡ rows_of t

-- rows with the one that an event adds or changes, if there is one
abbrev pub with_row : Option Row → List Row → List Row
with_row None rows = rows
with_row (Some row) rows = put row rows

-- A keeper has the tables: where it tells its rows, they are the rows of the tables.
pub record IsStored (keeping : Keeping) (t : Tables) : Type 0 where
  pub told : (rows : List Row) → keeping.rows ≡ Some rows → AreRowsOf t rows
