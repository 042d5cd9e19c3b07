-- Connections and tunnels that workers serve at the handles of a door and of halls.
use Rattle.std.specs.Prelude.{◌≡◌, ℕ, ◌+◌, ◌≤◌, ◌++◌, min, All, List, [], ◌∷◌, Option, Some, None, length, map}
use Rattle.host_base.specs.Outside.{Rose}
use Rattle.hub_core.specs.Book.{Book}
use Rattle.serve_door.specs.Connections.{ServesMany}
use Rattle.serve_door.specs.Doors.{Doorway, HasGivenAll, IsInOrder, IsWithinPlan, further, with_faults_of}
use Rattle.serve_door.specs.declared.serving.Stop.{Stop}
use Rattle.serve_door.specs.declared.serving.Stop.TheVariants as stop
use Rattle.serve_door.specs.declared.serving.Stopped.{Stopped}

-- A post: what its door tells, and how serving there stopped.
pub record Post : Type 0 where
  pub doorway : Doorway
  pub stopped : Stopped

-- VISITS WERE SERVED at a post, one after another, until its door had given all that it was to give, or failed, which it
-- counted, or memory ran out.
pub record Works (before after : Book) (old new : Post) : Type 0 where
  pub served : ServesMany before after old.doorway new.doorway new.stopped.answered
  pub within : IsWithinPlan old.doorway → IsWithinPlan new.doorway
  pub all : new.stopped.stop ≡ stop.All → HasGivenAll new.doorway
  pub counts : old.doorway.faults ≤ new.doorway.faults
  pub failed : new.stopped.stop ≡ stop.DoorFailed → Rose old.doorway.faults new.doorway.faults

-- A worker: his post at the door and his post at the halls, where he has them.
pub record Posts : Type 0 where
  pub door : Option Post
  pub halls : Option Post

-- visits were served at a post, where there is one
abbrev pub WorksAt : Book → Book → Option Post → Option Post → Type 0
WorksAt before after None None = after ≡ before
WorksAt before after (Some old) (Some new) = Works before after old new
WorksAt before after _ _ = ⊥

-- A worker served at the door and then at the halls, where he has a post there.
abbrev pub WorksBoth : Book → Book → Posts → Posts → Type 0
WorksBoth before after old new =
    (between : Book) × WorksAt before between old.door new.door × WorksAt between after old.halls new.halls

-- a post is ready: no more came back there than were given
abbrev pub IsReadyAt : Option Post → Type 0
IsReadyAt None = Unit {0}
IsReadyAt (Some post) = IsInOrder post.doorway

abbrev pub AreReady : Posts → Type 0
AreReady worker = IsReadyAt worker.door × IsReadyAt worker.halls

-- workers: one for each of these posts at the door, and one for each of those at the halls
abbrev pub workers_at : List Post → List Post → List Posts
workers_at doors halls =
    map (λ (post : Post). record { door = Some post; halls = None }) doors
    ++ map (λ (post : Post). record { door = None; halls = Some post }) halls

-- Posts: some at further handles of a door, and the last one at the door itself.
pub record AreHired (door : Doorway) (others : ℕ) (posts : List Post) : Type 0 where
  pub handles : List Post
  pub main : Post
  pub all : posts ≡ handles ++ main ∷ []
  pub further_are : All (λ post. post.doorway ≡ further door) handles
  pub many : length handles ≡ others
  pub main_is : main.doorway ≡ door

-- Workers at a door and at halls: for each of their handles one.
pub record AreStaff (door : Doorway) (others : ℕ) (halls : Doorway) (hall_others : ℕ) (workers : List Posts) : Type 0 where
  pub at_door : List Post
  pub at_halls : List Post
  pub door_hired : AreHired door others at_door
  pub halls_hired : AreHired halls hall_others at_halls
  pub all : workers ≡ workers_at at_door at_halls

-- what a door tells that took these handles back
abbrev pub with_handles : Doorway → List Post → Doorway
with_handles door [] = door
with_handles door (post ∷ more) = with_handles (with_faults_of door post.doorway) more

-- why serving stopped at two posts: all was served where all was at both
abbrev pub worse : Stop → Stop → Stop
worse stop.All other = other
worse stop.DoorFailed other = stop.DoorFailed
worse stop.Memory stop.DoorFailed = stop.DoorFailed
worse stop.Memory other = stop.Memory

-- how two stopped together; a number of 64 bits stays at its last value
abbrev pub together : Stopped → Stopped → Stopped
together one other = record {
  stop = worse one.stop other.stop;
  answered = min (one.answered + other.answered) 18446744073709551615;
}

-- how all stopped
abbrev pub all_together : Stopped → List Post → Stopped
all_together stopped [] = stopped
all_together stopped (post ∷ more) = all_together (together stopped post.stopped) more
