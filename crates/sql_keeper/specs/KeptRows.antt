-- The rows that a connection tells, and those that a stop may leave.
use Rattle.std.specs.Prelude.{◌≡◌, ◌⊎◌, Bool, false, IsTrue, ◌&&◌, if◌then◌else◌, List, [], ◌∷◌, Option, Some, None, Result, Ok, Err}
use Rattle.sqlite_value.specs.Order.{Row as Values}
use Rattle.sqlite_trees.specs.Tree.{Trees}
use Rattle.sqlite_trees.specs.Objects.{catalog_tree}
use Rattle.sqlite.specs.Effect.{IsDatabase}
use Rattle.sqlite.specs.State.{State}
use Rattle.sqlite.specs.Store.{Ghosts}
use Rattle.sqlite.specs.Held.{Held, state}
use Rattle.sqlite.specs.Schema.{Schema}
use Rattle.sqlite.specs.declared.error.Error.{Error}
use Rattle.cloud_keeper.specs.declared.row.Row.{Row}
use Rattle.cloud_keeper.specs.Keeping.{NoOther}
use Rattle.sql_keeper.specs.Told.{kept}

-- of a list of objects and the first table: an empty database has no rows
abbrev pub rows_listed : List Values → List Values → Option (List Row)
rows_listed [] first = Some []
rows_listed (object ∷ objects) first = kept first

-- THE ROWS OF A DATABASE, those of its first table. A keeper runs no statement on a database with any other table than that of the rows.
abbrev pub rows_in : Trees → Option (List Row)
rows_in db = rows_listed (db catalog_tree) (db 0)

-- THE ROWS THAT A CONNECTION TELLS, while it is open and its disk is clean
abbrev pub told : State → Option (List Row)
told s = if s.is_clean && s.is_open then rows_in s.now.trees else None

-- what a stop may leave: whether it is told, and the lists of rows that may be found again after a stop at this moment
pub record Stop : Type 1 where
  pub is_told : Bool
  pub may_leave : List Row → Type 0

-- What is told of a stop now was told of it before; it leaves a list that it could leave before, or one of these others.
pub record StopsAsBefore (old new : Stop) (Others : List Row → Type 0) : Type 0 where
  pub told : IsTrue new.is_told → IsTrue old.is_told
  pub leaves : IsTrue new.is_told → (rows : List Row) → new.may_leave rows → old.may_leave rows ⊎ Others rows

-- WHAT A STOP MAY LEAVE: the rows of a database that an opening after it may find; told while the disk is clean
abbrev pub stop_of : State → Stop
stop_of s = record { is_told = s.is_clean; may_leave = λ rows. (db : Trees) × s.may_leave db × (rows_in db ≡ Some rows) }

-- the same of a connection
abbrev pub told_at : {S : Type 0} → Ghosts S → Held S → Option (List Row)
told_at store conn = told (state store conn)

abbrev pub stop_at : {S : Type 0} → Ghosts S → Held S → Stop
stop_at store conn = stop_of (state store conn)

-- the same of a keeper's connection, where there is one
abbrev pub told_by : {S : Type 0} → Ghosts S → Result (Held S) Error → Option (List Row)
told_by store (Ok conn) = told_at store conn
told_by store (Err error) = None

abbrev pub stop_by : {S : Type 0} → Ghosts S → Result (Held S) Error → Stop
stop_by store (Ok conn) = stop_at store conn
stop_by store (Err error) = record { is_told = false; may_leave = NoOther }

-- rows that are told now were told before, after a change
abbrev pub ToldFollow : Option (List Row) → Option (List Row) → (List Row → List Row) → Type 0
ToldFollow old new change = (rows : List Row) → new ≡ Some rows → (before : List Row) × (old ≡ Some before) × (rows ≡ change before)

-- while it is told what a stop may leave, rows that were told are told still, after a change
abbrev pub StillTold : Option (List Row) → Option (List Row) → Stop → (List Row → List Row) → Type 0
StillTold old new stop change = IsTrue stop.is_told → (before : List Row) → old ≡ Some before → new ≡ Some (change before)

-- the rows that were told, after a change
abbrev pub Changed : Option (List Row) → (List Row → List Row) → List Row → Type 0
Changed old change rows = (before : List Row) × (old ≡ Some before) × (rows ≡ change before)

-- a stop leaves the rows that are told, and nothing else
abbrev pub LeavesTold : Option (List Row) → Stop → Type 0
LeavesTold now stop = (rows left : List Row) → now ≡ Some rows → stop.may_leave left → left ≡ rows

-- A connection outside a transaction, whose database has this schema.
pub record IsOver (schema : Schema) (s : State) : Type 0 where
  pub autocommit : s.in_transaction ≡ false
  pub schema_is : s.now.schema ≡ schema
  pub sound : IsTrue s.is_open → IsDatabase s.now
  pub settled : IsTrue s.is_open → s.now ≡ s.committed
