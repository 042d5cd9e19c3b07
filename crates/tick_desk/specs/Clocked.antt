-- A desk with a clock: what it tells, and what its ticks are for.
use Rattle.std.specs.Prelude.{◌≡◌, ◌≤◌, ◌+◌, ◌-◌, ℕ, Bool, ◌++◌, List, Option, Some, None, Result, Ok, Err, length, slice_get, sum_by, take}
use Rattle.desk_orders.specs.declared.reply.OrderFault.{OrderFault}
use Rattle.desk_orders.specs.declared.reply.OrderFault.TheVariants as fault
use Rattle.desk_orders.specs.declared.reply.Reply.{Reply}
use Rattle.host_base.specs.declared.bytes.Memory.{Memory}
use Rattle.share_graph.specs.declared.event.Event.{Event}
use Rattle.share_graph.specs.declared.event.Event.TheVariants as event
use Rattle.share_graph.specs.declared.grants.Grant.{Grant}
use Rattle.host_base.specs.declared.ids.GrantId.{GrantId}
use Rattle.share_graph.specs.History.{replay}
use Rattle.share_graph.specs.Rows.{IsGrant}
use Rattle.region_access.specs.Seeds.{ComesBetween}
use Rattle.hub_core.specs.Book.{Book}
use Rattle.hub_core.specs.Ticking.{IsTick, added_by}
use Rattle.tick_desk.specs.declared.tick_desk.LastTick.{LastTick}

-- A desk with a clock: the desk beneath, the clock, how many of its own ticks were accepted, and its last tick.
pub record Clocked (D C : Type 0) : Type 0 where
  pub desk : D
  pub clock : C
  pub ticks : ℕ
  pub last : Option LastTick

-- What it tells is what the desk beneath tells, but that its own ticks are none of the commands that it accepted.
abbrev pub without : ℕ → Book → Book
without ticks book = record book { accepted = book.accepted - ticks }

-- how many of the entries are ticks
abbrev pub tick_of : Event → ℕ
tick_of (event.Ticked m) = 1
tick_of _ = 0

abbrev pub ticks_in : List Event → ℕ
ticks_in entries = sum_by tick_of entries

-- The tick was answered at its place, by the state there.
pub record WasTicked (book : Book) (tick : LastTick) : Type 0 where
  pub before : List Event
  pub rest : List Event
  pub answer : Bool
  pub seen : book.seen ≡ (before ++ added_by tick.moment (Ok answer)) ++ rest
  pub place_is : tick.place ≡ length before
  pub answered : IsTick (replay book.start before) tick.moment (Ok answer)

-- the last tick, if there is one, was so
abbrev pub KnowsLast : Book → Option LastTick → Type 0
KnowsLast book None = Unit {0}
KnowsLast book (Some tick) = WasTicked book tick

-- the last tick, once a tick was answered
abbrev pub last_after : Option LastTick → ℕ → ℕ → Result Bool Memory → Option LastTick
last_after last m place (Ok changed) = Some (record { moment = m; place = place })
last_after last m place (Err memory) = last

-- It ticked: its last tick has the moment, at a place that isn't before what was seen.
abbrev pub HasTicked : ℕ → ℕ → Option LastTick → Type 0
HasTicked low m last = (tick : LastTick) × (last ≡ Some tick) × (tick.moment ≡ m) × (low ≤ tick.place)

-- Its last tick stays, and was at the moment or later.
abbrev pub StaysTicked : ℕ → Option LastTick → Option LastTick → Type 0
StaysTicked m old new = (tick : LastTick) × (old ≡ Some tick) × (new ≡ Some tick) × (m ≤ tick.moment)

-- Of its own ticks one more was accepted at the most. Where one was, it is the last tick, and the entry at its place.
pub record CountsTicks (m old new : ℕ) (last : Option LastTick) (seen : List Event) : Type 0 where
  pub most : new ≤ old + 1
  pub entry : new ≡ old + 1
      → (tick : LastTick) × (last ≡ Some tick) × (slice_get seen tick.place ≡ Some (event.Ticked m))

-- NO GRANT OUTLIVES ITS END: of the grants that stood at the last tick, none has an expiry at the place of the answer that
-- is above the moment of the tables there, and that the moment of the last tick had reached.
abbrev pub IsOnTime : Book → Option LastTick → ℕ → Type 0
IsOnTime book None place = ⊥
IsOnTime book (Some tick) place =
    (g : GrantId) (grant : Grant) → IsGrant (replay book.start (take tick.place book.seen)).tables g grant
    → ComesBetween (replay book.start (take place book.seen)).tables.moment tick.moment grant.expires → ⊥

-- unless memory ran out
abbrev pub UnlessMemory : Result Reply OrderFault → Type 0 → Type 0
UnlessMemory (Err fault.Memory) P = Unit {0}
UnlessMemory _ P = P
