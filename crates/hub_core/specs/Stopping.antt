-- What a stop of the machine leaves of the rows of a history.
use Rattle.std.specs.Prelude.{◌≡◌, ◌⊎◌, ◌++◌, ◌∷◌, [], ℕ, Bool, IsTrue, length, List, Option, Some}
use Rattle.hub_core.specs.Terms.{AcceptsWith, AreRowsOf, Asked, Event, EventFits, IsFoundBy, IsWellFormed, Keeping, Law, LeavesAsBefore, LeavesItsRows, Made, replay, Row, row_after, State, tables_after}
use Rattle.hub_core.specs.Revoking.{behind}
use Rattle.hub_core.specs.Sharing.{Sharing}

-- The first are the rows of tables, and the second those of the tables after one event more.
abbrev pub AreOneOn : List Row → List Row → Type 0
AreOneOn rows more = (s : State) × (e : Event) × IsWellFormed s × EventFits s e × AreRowsOf s.tables rows
    × AreRowsOf (tables_after s.tables e) more

-- THE ROWS OUTLIVE A STOP: while the store is clean, it leaves the rows that are told, or those after one event more.
pub record OutliveStops (now : Keeping) (may_leave : List Row → Type 0) : Type 0 where
  pub leaves : IsTrue now.clean → (rows left : List Row) → now.rows ≡ Some rows → may_leave left
      → (left ≡ rows) ⊎ AreOneOn rows left

-- These are the rows after the event in hand: of a change that the order wants and that is accepted at a state with n
-- entries.
abbrev pub AreInHand : Law → State → ℕ → Asked → List Row → Type 0
AreInHand law s n order rows = (found : Option Bool) × (drawn : List (List ℕ)) × (e : Event) × (made : Made)
    × IsFoundBy law s order.caller order.command found × AcceptsWith s n found order drawn e made
    × AreRowsOf (tables_after s.tables e) rows

-- WHAT A STOP LEAVES BEHIND AN ORDER, while the store is clean: a list of rows that it could leave before, or the rows after
-- the event in hand; and where an event with a row was added, the rows that are told and nothing else.
pub record LeavesBehind {K : Type 0} (law : Law) (may_leave : K → List Row → Type 0) (old new : Sharing K)
    (order : Asked) : Type 0 where
  pub stops : LeavesAsBefore new.holds.keeping.clean (may_leave old.keeper) (may_leave new.keeper)
      (AreInHand law (replay old.start old.history) (length old.history) order)
  pub settled : (e : Event) (row : Row) → new.history ≡ old.history ++ e ∷ []
      → row_after (behind old.start old.history) e ≡ Some row
      → LeavesItsRows new.holds.keeping (may_leave new.keeper)
  pub outlive : OutliveStops new.holds.keeping (may_leave new.keeper)
