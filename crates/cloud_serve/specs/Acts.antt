-- The orders that a request made.
use Rattle.std.specs.Prelude.{◌≡◌, ◌+◌, ℕ, Bool, true, false, List, Result, Ok, Err, count_by, length}
use Rattle.std.specs.List.{flat_map}
use Rattle.cloud_serve.specs.Terms.{AppId, Asked, Book, Event, OrderFault, Placed, Reply, RunId, Start, starts_by, stops_by, token_of}
use Rattle.desk_orders.specs.declared.reply.OrderFault.TheVariants as fault
use Rattle.desk_orders.specs.declared.reply.Reply.TheVariants as reply

-- An order with all that came of it: its place, the answer, the secrets drawn for it, what it added, one entry or none, and
-- the application whose program a run was started by.
pub record Act : Type 0 where
  pub order : Asked
  pub place : ℕ
  pub answer : Result Reply OrderFault
  pub drawn : List (List ℕ)
  pub added : List Event
  pub app : AppId

abbrev pub added_by : List Act → List Event
added_by acts = flat_map (λ act. act.added) acts

abbrev pub drawn_by : List Act → List (List ℕ)
drawn_by acts = flat_map (λ act. act.drawn) acts

-- the starts and the stops that what was added wants, in their order
abbrev pub started_by : List Act → List Start
started_by acts = flat_map (λ act. starts_by act.app (token_of act.order act.drawn) act.added) acts

abbrev pub stopped_by : List Act → List RunId
stopped_by acts = flat_map (λ act. stops_by act.added) acts

-- whether an answer is this fault
abbrev pub is_fault : OrderFault → Result Reply OrderFault → Bool
is_fault fault.Store (Err fault.Store) = true
is_fault fault.Secrets (Err fault.Secrets) = true
is_fault fault.Start (Err fault.Start) = true
is_fault fault.Memory (Err fault.Memory) = true
is_fault _ _ = false

-- how many of the answers are
abbrev pub failures : OrderFault → List Act → ℕ
failures why acts = count_by (λ act. is_fault why act.answer) acts

-- whether an order was carried out
abbrev pub is_done : Result Reply OrderFault → Bool
is_done (Ok (reply.Made made text)) = true
is_done _ = false

-- THE ORDER is made: its answer is lawful at its place, and what it adds is the entry at that place.
pub record IsMade (book : Book) (low : ℕ) (order : Asked) (act : Act) : Type 0 where
  pub order_is : act.order ≡ order
  pub placed : Placed low book order act.place act.answer act.drawn act.added act.app

-- how far the connection counts the history once an order was made
abbrev pub past : Act → ℕ
past act = act.place + length act.added
