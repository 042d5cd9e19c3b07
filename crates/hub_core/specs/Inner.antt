-- Aids for the contracts of private functions. No public contract stands on them.
use Rattle.std.specs.Prelude.{◌≡◌, ◌++◌, ℕ, ⊤, Bool, List, [], ◌∷◌, Option, Some, None, Result, Ok, Err, IfErr, OnOk, length}
use Rattle.hub_core.specs.Terms.{AppId, AreRowsOf, Asked, Event, EventFits, IsFoundBy, IsOfRuns, IsOfTables, IsStored, IsWellFormed, Keeping, Law, LeavesAsBefore, LeavesItsRows, Made, OrderFault, put, replay, Reply, Row, row_after, Spawns, State, Tables, tables_after, TheRowsAfter, with_row}
use Rattle.desk_orders.specs.declared.reply.OrderFault.TheVariants as fault
use Rattle.desk_orders.specs.declared.reply.Reply.TheVariants as reply
use Rattle.hub_core.specs.Book.{Backing, CountsOn, IsCounted, IsFoundFor, Ordered}
use Rattle.hub_core.specs.Sharing.{Objects, Past, Sharing, book_of, state_of}
use Rattle.hub_core.specs.Spawning.{Spawned}
use Rattle.hub_core.specs.Stopping.{AreInHand, OutliveStops}

-- the entry that an event is, where the outside was told of it
abbrev pub entry_of : Event → Result ⊤ OrderFault → List Event
entry_of e (Ok done) = e ∷ []
entry_of e (Err why) = []

-- the faults that an event can meet: the spawner's where it is of runs, the keeper's where it is of the tables
abbrev pub CanMeet : Event → OrderFault → Type 0
CanMeet e fault.Start = IsOfRuns e
CanMeet e fault.Store = IsOfTables e
CanMeet e fault.Secrets = ⊥
CanMeet e fault.Memory = Unit {0}

-- The outside was told what an event wants, or nothing, for a fault that the event can meet and that was counted.
pub record Told (old new : Backing) (e : Event) (app : AppId) (token : List ℕ) (result : Result ⊤ OrderFault)
    : Type 0 where
  pub spawned : Spawned old.spawns new.spawns app token (entry_of e result)
  pub undrawn : new.drawer ≡ old.drawer
  pub counts : CountsOn old new
  pub meets : IfErr result (CanMeet e)
  pub counted : IfErr result (λ why. IsCounted old new (Err why))

-- the same where the spawner alone was called, and where the keeper alone was, for an event of the tables
abbrev pub ToldSpawner : Spawns → Spawns → Event → AppId → List ℕ → Result ⊤ OrderFault → Type 0
ToldSpawner old new e app token result =
    (holds : Backing)
    → Told (record holds { spawns = old }) (record holds { spawns = new }) e app token result

abbrev pub ToldKeeper : Keeping → Keeping → Result ⊤ OrderFault → Type 0
ToldKeeper old new result = (holds : Backing) (e : Event) (app : AppId) (token : List ℕ) → IsOfTables e
    → Told (record holds { keeping = old }) (record holds { keeping = new }) e app token result

-- the row of an event, where it has one, is of the tables
abbrev pub HasItsRow : Event → Option Row → Type 0
HasItsRow e None = Unit {0}
HasItsRow e (Some row) = IsOfTables e

-- rows of the tables with this row are those of the tables after the event
abbrev pub KeepsRows : Tables → Event → Option Row → Type 0
KeepsRows t e row = (s : State) (rows : List Row) → IsWellFormed s → s.tables ≡ t → EventFits s e
    → AreRowsOf t rows → AreRowsOf (tables_after t e) (with_row row rows)

-- what becomes of rows: the row is among them, or they stay where the keeper wasn't told
abbrev pub kept_by : Option Row → Result ⊤ OrderFault → List Row → List Row
kept_by row (Ok done) rows = with_row row rows
kept_by row (Err why) rows = rows

-- the answer to a change: it was carried out, or a fault kept it from being
abbrev pub replied : Made → Option (List ℕ) → Result ⊤ OrderFault → Result Reply OrderFault
replied made text (Ok done) = Ok (reply.Made made text)
replied made text (Err why) = Err why

-- An order was answered at the end of a history, by a law of the sites that allows what they have of what it chooses.
abbrev pub OrderedBy : {K : Type 0} → Law → Option Bool → Sharing K → Sharing K → Asked
    → Result Reply OrderFault → Type 0
OrderedBy law found old new order answer = IsWellFormed (replay old.start old.history)
    → IsFoundFor law (replay old.start old.history) order answer found
    → Ordered (book_of law old) (book_of law new) order (length old.history) answer

-- what a stop may leave once the keeper was told of the row of an event, or of none
abbrev pub LeavesBy : {K : Type 0} → (K → List Row → Type 0) → Objects K → Objects K → Option Row
    → Result ⊤ OrderFault → Type 0
LeavesBy may_leave old new None result = (new.keeper ≡ old.keeper) × (new.tell.keeping ≡ old.tell.keeping)
LeavesBy may_leave old new (Some row) result =
    LeavesAsBefore new.tell.keeping.clean (may_leave old.keeper) (may_leave new.keeper)
    (TheRowsAfter old.tell.keeping (put row))
    × OnOk result (LeavesItsRows new.tell.keeping (may_leave new.keeper))

-- Where a history grew by an event that has a row, a stop leaves the rows that are told, and nothing else.
abbrev pub SettlesEntry : Past → Past → Keeping → (List Row → Type 0) → Type 0
SettlesEntry old new now may_leave =
    (e : Event) (row : Row) → new.entries ≡ old.entries ++ e ∷ []
    → row_after (state_of old).tables e ≡ Some row → LeavesItsRows now may_leave

-- What a stop may leave, from a history to a later one: a list that it could leave before, or such rows in hand.
pub record Outlasts {K : Type 0} (may_leave : K → List Row → Type 0) (past past' : Past) (old new : Objects K)
    (InHand : List Row → Type 0) : Type 0 where
  pub stops : IsStored old.tell.keeping (state_of past).tables
      → LeavesAsBefore new.tell.keeping.clean (may_leave old.keeper) (may_leave new.keeper) InHand
  pub settled : SettlesEntry past past' new.tell.keeping (may_leave new.keeper)
  pub outlives : IsStored old.tell.keeping (state_of past).tables
      → OutliveStops old.tell.keeping (may_leave old.keeper)
      → OutliveStops new.tell.keeping (may_leave new.keeper)

-- the same of an order that is answered with what the sites have of what it chooses
abbrev pub OutlastsOrder : {K : Type 0} → (K → List Row → Type 0) → Law → Option Bool → Past → Past
    → Objects K → Objects K → Asked → Type 0
OutlastsOrder may_leave law found past past' old new order =
    IsFoundBy law (state_of past) order.caller order.command found
    → Outlasts may_leave past past' old new (AreInHand law (state_of past) (length past.entries) order)
