-- What a connection does to the link and the desk.
use Rattle.std.specs.Prelude.{◌≡◌, ◌+◌, ◌≤◌, ◌++◌, ℕ, List, Some, count_by, is_none, length}
use Rattle.cloud_serve.specs.Terms.{Ask, Book, Collecting, DrawsAll, Grew, Later, Line, WasTold}
use Rattle.desk_orders.specs.declared.reply.OrderFault.TheVariants as fault
use Rattle.cloud_serve.specs.Acts.{Act, added_by, drawn_by, failures, started_by, stopped_by}
use Rattle.cloud_serve.specs.Collecting.{AreCollecting, place_after}

-- The link was asked these texts and no others, and each ask that failed was counted.
pub record AskedOf (before after : Line) (asked : List Ask) : Type 0 where
  pub told : (list : List Ask) → before.asked ≡ Some list → after.asked ≡ Some (list ++ asked)
  pub counts : before.faults ≤ after.faults
  pub counted : Grew before.faults after.faults (count_by (λ ask. is_none ask.back) asked)

-- These orders were made of the desk and no others: its history goes on, it accepted what they added and no more, the
-- secrets that were drawn are those drawn for them, and each fault was counted. The spawner was told what they added and no
-- more: for each run that was started, one start of its grain's application, whose token is the text of the secret that was
-- drawn, and for each that was stopped, one stop. Where the history grew by no more than that, nobody else wrote it.
pub record OrderedOf (old new : Book) (acts : List Act) : Type 0 where
  pub later : Later old new
  pub accepted : new.accepted ≡ old.accepted + length (added_by acts)
  pub draws : DrawsAll old.holds.drawer.coming new.holds.drawer.coming (drawn_by acts)
  pub spawned : WasTold old.holds.spawns new.holds.spawns (started_by acts) (stopped_by acts)
  pub store : Grew old.holds.keeping.faults new.holds.keeping.faults (failures fault.Store acts)
  pub secrets : Grew old.holds.drawer.faults new.holds.drawer.faults (failures fault.Secrets acts)
  pub starts : Grew old.holds.spawns.faults new.holds.spawns.faults (failures fault.Start acts)
  pub grows : length old.seen + length (added_by acts) ≤ length new.seen
  pub alone : length new.seen ≡ length old.seen + length (added_by acts)
      → new.seen ≡ old.seen ++ added_by acts

-- A curator that collects made orders of the desk, none of them before what it had seen, and no others; the place is that of the last one, or
-- the one before, where there is none.
pub record Came (asks : Collecting) (before : ℕ) (old new : Book) (place : ℕ) (Ends : List Act → Type 0) : Type 0 where
  pub acts : List Act
  pub collecting : AreCollecting asks new (length old.seen) acts
  pub ordered_of : OrderedOf old new acts
  pub place_is : place ≡ place_after before acts
  pub ends : Ends acts
