-- THE ROWS OF TABLES, and the tables of rows.
use Rattle.std.specs.Prelude.{ℕ, List, [], ◌∷◌, ◌++◌, Result, Ok, Err}
use Rattle.row_formats.specs.declared.fault.RowFault.TheVariants.{BadField}
use Rattle.share_graph.specs.declared.state.Tables.{Tables}
use Rattle.row_formats.specs.Place.{◌>>=◌}
use Rattle.row_codec.specs.Rows.{account, grain, saved}
use Rattle.row_codec.specs.AppRow.{app}
use Rattle.row_codec.specs.GrantRow.{grant}
use Rattle.cloud_keeper.specs.declared.row.Row.{Row}
use Rattle.row_tables.specs.declared.stored.BadRow.{BadRow}
use Rattle.row_tables.specs.Sections.{body_of, section_at, section_rows, SectionFits}

-- the rows of tables: by kind, and then by number, from 1 on
abbrev pub rows_of : Tables → List Row
rows_of t =
    section_rows 1 account 1 t.accounts ++ (section_rows 2 app 1 t.apps ++ (section_rows 3 grain 1 t.grains
    ++ (section_rows 4 grant 1 t.grants ++ section_rows 5 saved 1 t.saved)))

-- the tables have rows: none is above the limit of its kind, and each fits its format
pub record HaveRows (t : Tables) : Type 0 where
  pub accounts : SectionFits 4096 account 1 t.accounts
  pub apps : SectionFits 256 app 1 t.apps
  pub grains : SectionFits 16384 grain 1 t.grains
  pub grants : SectionFits 65536 grant 1 t.grants
  pub saved : SectionFits 65536 saved 1 t.saved

-- Behind the last kind no row may stand: one that is left is of another kind, or of a smaller one than the row before it.
abbrev pub ended_rows : Tables → ℕ → List Row → Result Tables BadRow
ended_rows t i [] = Ok t
ended_rows t i (row ∷ rows) = Err (record { index = i; fault = BadField 0 })

-- the tables with the moment of a start, which is no row
abbrev pub at_start : Tables → Tables
at_start t = record t { moment = 0 }

-- the tables that rows state, at a start, or the first bad row
unfoldable pub tables_of : List Row → Result Tables BadRow
tables_of rows = do
  a ← section_at 1 4096 (body_of account) 1 0 rows
  p ← section_at 2 256 (body_of app) 1 a.1.0 a.1.1
  n ← section_at 3 16384 (body_of grain) 1 p.1.0 p.1.1
  g ← section_at 4 65536 (body_of grant) 1 n.1.0 n.1.1
  s ← section_at 5 65536 (body_of saved) 1 g.1.0 g.1.1
  ended_rows (record { accounts = a.0; apps = p.0; grains = n.0; grants = g.0; saved = s.0; moment = 0 }) s.1.0 s.1.1
