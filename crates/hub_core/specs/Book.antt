-- What a desk tells; the verdict on a key, and the answer to an order, at one place of its history.
use Rattle.std.specs.Prelude.{◌≡◌, ℕ, Bool, IsTrue, ◌+◌, ◌≤◌, ◌++◌, List, Option, Result, Err, length, take}
use Rattle.hub_core.specs.Terms.{AppId, Asked, Drawer, DrawsAll, Event, IsAnswer, IsFoundBy, IsStored, IsVerdict, IsWellFormed, Keeping, Key, Law, OrderFault, replay, Reply, Rose, Spawns, State, Verdict}
use Rattle.desk_orders.specs.declared.reply.OrderFault.TheVariants as fault
use Rattle.host_base.specs.declared.bytes.Memory.{Memory}
use Rattle.hub_core.specs.Spawning.{AreOfApp, HaveToken, Spawned, Untold, token_of}
use Rattle.hub_core.specs.Ticking.{IsTick, NeverBack, added_by}

-- What the objects that a desk works with tell: the keeper of its rows, the secrets that are drawn for it, and the
-- spawner of its runs.
pub record Backing : Type 0 where
  pub keeping : Keeping
  pub drawer : Drawer
  pub spawns : Spawns

-- What a desk tells: the law of its sites, the state that its history began with, the entries of the history that it has
-- seen, how many commands it accepted, and what its objects tell.
pub record Book : Type 0 where
  pub law : Law
  pub start : State
  pub seen : List Event
  pub accepted : ℕ
  pub holds : Backing

-- No count of faults fell, and a store that is clean was so before.
pub record CountsOn (old new : Backing) : Type 0 where
  pub store : old.keeping.faults ≤ new.keeping.faults
  pub secrets : old.drawer.faults ≤ new.drawer.faults
  pub starts : old.spawns.faults ≤ new.spawns.faults
  pub clean : IsTrue new.keeping.clean → IsTrue old.keeping.clean

-- THE KEEPER HAS THE TABLES at the end of what was seen, where it tells its rows.
abbrev pub HasTables : Book → Type 0
HasTables book = IsStored book.holds.keeping (replay book.start book.seen).tables

-- The same law and the same history, seen as far as before or further. No count falls, and a keeper that had the tables
-- has them.
pub record Later (old new : Book) : Type 0 where
  pub law : new.law ≡ old.law
  pub start : new.start ≡ old.start
  pub more : List Event
  pub seen : new.seen ≡ old.seen ++ more
  pub counts : CountsOn old.holds new.holds
  pub stored : HasTables old → HasTables new

-- No command was accepted, no secret drawn, and no run started or stopped.
pub record TakesNone (old new : Book) : Type 0 where
  pub later : Later old new
  pub accepted : new.accepted ≡ old.accepted
  pub undrawn : new.holds.drawer.coming ≡ old.holds.drawer.coming
  pub untold : Untold old.holds.spawns new.holds.spawns

-- The verdict on a key at one place of what was seen, at least `low`, by the state there, which is well formed.
pub record Judged (low : ℕ) (book : Book) (key : Key) (place : ℕ) (verdict : Verdict) : Type 0 where
  pub before : List Event
  pub rest : List Event
  pub seen : book.seen ≡ before ++ rest
  pub place_is : place ≡ length before
  pub low_is : low ≤ place
  pub formed : IsWellFormed (replay book.start before)
  pub verdict_is : IsVerdict (replay book.start before) key verdict

-- What the sites have of what an order chooses. For want of memory it may be said to be anything, which nobody reads.
abbrev pub IsFoundFor : Law → State → Asked → Result Reply OrderFault → Option Bool → Type 0
IsFoundFor law s order (Err fault.Memory) found = Unit {0}
IsFoundFor law s order answer found = IsFoundBy law s order.caller order.command found

-- The answer to an order at one place of what was seen, at least `low`: it is lawful by the state there, which is well
-- formed, with what the sites have of what the order chooses, and what the order adds is the entry at that place. A run
-- that it starts is of a grain of this application there.
pub record Placed (low : ℕ) (book : Book) (order : Asked) (place : ℕ) (answer : Result Reply OrderFault)
    (drawn : List (List ℕ)) (added : List Event) (app : AppId) : Type 0 where
  pub before : List Event
  pub rest : List Event
  pub seen : book.seen ≡ (before ++ added) ++ rest
  pub place_is : place ≡ length before
  pub low_is : low ≤ place
  pub formed : IsWellFormed (replay book.start before)
  pub found : Option Bool
  pub found_is : IsFoundFor book.law (replay book.start before) order answer found
  pub lawful : IsAnswer book.law (replay book.start before) place found order answer drawn added
  pub apps : AreOfApp (replay book.start before) app added

-- a fault that is answered was counted
abbrev pub IsCounted : Backing → Backing → Result Reply OrderFault → Type 0
IsCounted old new (Err fault.Store) = Rose old.keeping.faults new.keeping.faults
IsCounted old new (Err fault.Secrets) = Rose old.drawer.faults new.drawer.faults
IsCounted old new (Err fault.Start) = Rose old.spawns.faults new.spawns.faults
IsCounted old new _ = Unit {0}

-- An order was answered: at a place that isn't before what was seen, with the secrets that were drawn for it and the
-- entries that it added, which are the commands that were accepted; the spawner was told what these want and no more: of
-- a run that they start, its grain's application, and the token whose digest it has.
pub record Ordered (old new : Book) (order : Asked) (place : ℕ) (answer : Result Reply OrderFault)
    : Type 0 where
  pub drawn : List (List ℕ)
  pub added : List Event
  pub app : AppId
  pub later : Later old new
  pub placed : Placed (length old.seen) new order place answer drawn added app
  pub accepted : new.accepted ≡ old.accepted + length added
  pub draws : DrawsAll old.holds.drawer.coming new.holds.drawer.coming drawn
  pub spawned : Spawned old.holds.spawns new.holds.spawns app (token_of order drawn) added
  pub tokens : HaveToken (token_of order drawn) added
  pub counted : IsCounted old.holds new.holds answer

-- A TICK was answered: at a place that isn't before what was seen, by the state there, which is well formed. Where it was
-- answered by yes it is the entry at that place, and the one command that was accepted. No secret was drawn, and the spawner
-- was told nothing.
pub record Ticked (old new : Book) (m place : ℕ) (answer : Result Bool Memory) : Type 0 where
  pub before : List Event
  pub rest : List Event
  pub later : Later old new
  pub seen : new.seen ≡ (before ++ added_by m answer) ++ rest
  pub place_is : place ≡ length before
  pub low_is : length old.seen ≤ place
  pub formed : IsWellFormed (replay new.start before)
  pub answered : IsTick (replay new.start before) m answer
  pub accepted : new.accepted ≡ old.accepted + length (added_by m answer)
  pub undrawn : new.holds.drawer.coming ≡ old.holds.drawer.coming
  pub untold : Untold old.holds.spawns new.holds.spawns

-- up to a place of what was seen the clock never went back
abbrev pub GoesOn : Book → ℕ → Type 0
GoesOn book place = NeverBack book.start (take place book.seen)
