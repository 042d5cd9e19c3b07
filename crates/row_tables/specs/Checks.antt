-- Rows that state tables, of which one doesn't fit the others.
use Rattle.std.specs.Prelude.{◌≡◌, ◌⊎◌, ℕ, ◌+◌, ◌-◌, List, length, Some, Result, Ok, Err}
use Rattle.share_graph.specs.Checked.{IsChecked, TablesFault}
use Rattle.share_graph.specs.declared.fault.GraphFault.{GraphFault}
use Rattle.share_graph.specs.declared.fault.GraphFault.TheVariants as fault
use Rattle.share_graph.specs.declared.fault.Kind.{Kind}
use Rattle.share_graph.specs.declared.fault.Kind.TheVariants as kind
use Rattle.share_graph.specs.declared.state.Tables.{Tables}
use Rattle.row_formats.specs.declared.fault.RowFault.TheVariants.{BadRef}
use Rattle.cloud_keeper.specs.declared.row.Row.{Row}
use Rattle.row_tables.specs.declared.stored.BadRow.{BadRow}
use Rattle.row_tables.specs.declared.stored.LoadFault.{LoadFault}
use Rattle.row_tables.specs.declared.stored.LoadFault.TheVariants as load
use Rattle.row_tables.specs.TablesRows.{tables_of}

-- how many rows stand before those of a kind
abbrev pub start_of : Tables → Kind → ℕ
start_of t kind.App = length t.accounts
start_of t kind.Grain = length t.accounts + length t.apps
start_of t kind.Grant = length t.accounts + length t.apps + length t.grains
start_of t kind.Saved = length t.accounts + length t.apps + length t.grains + length t.grants
start_of t _ = 0

-- a bad row: that of a kind and a number, with the number of its fault
abbrev pub bad_row : Tables → Kind → ℕ → ℕ → BadRow
bad_row t k n number = record { index = start_of t k + (n - 1); fault = BadRef number }

-- the bad row that a fault of the tables names, with the fault's number
abbrev pub bad_ref : Tables → GraphFault → BadRow
bad_ref t (fault.UnknownRow k n) = bad_row t k n 1
bad_ref t (fault.DoubleDigest k n) = bad_row t k n 2
bad_ref t (fault.BadParent g) = bad_row t kind.Grant g.0 3
bad_ref t (fault.LateParent g) = bad_row t kind.Grant g.0 4
bad_ref t (fault.BadSet k n) = bad_row t k n 5
bad_ref t (fault.BadShare k n) = bad_row t k n 6

-- THE FIRST BAD ROW: it is bad by itself, or all rows state tables, whose first fault is at this one.
abbrev pub IsBadRow : List Row → BadRow → Type 0
IsBadRow rows bad = (tables_of rows ≡ Err bad) ⊎ ((t : Tables) × (tables_of rows ≡ Ok t) × ((f : GraphFault) × TablesFault t (Some f) × (bad ≡ bad_ref t f)))

-- The answer to rows: the tables that they state, which have no fault, or the first bad row; want of memory is free.
abbrev pub GivesTables : Result Tables LoadFault → List Row → Type 0
GivesTables (Ok t) rows = (tables_of rows ≡ Ok t) × IsChecked t
GivesTables (Err load.Memory) rows = Unit {0}
GivesTables (Err (load.BadRow bad)) rows = IsBadRow rows bad
