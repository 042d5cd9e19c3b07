-- What `serve` does, by its two ends.
use Rattle.std.specs.Prelude.{◌≡◌, ℕ, ◌⊎◌, ◌++◌, ◌<◌, List, [], ◌∷◌, Option, None, Some, ◌≢◌, codes, decimal}
use Rattle.std.specs.List.{AllByRecursion}
use Rattle.admin_run.specs.Terms.{Account, AccountId, all_together, AreStaff, Backing, Coming, CountsOn, DoneAtOnce, DrawsAll, Event, expecting, given_and_back, HasKept, IsAccount, IsStored, Law, opened, Outlet, OutliveStops, Post, Posts, replay, Row, SpawnedSince, State, Stop, Stopped, Tables, together, with_handles, workers_at, WorksBoth}
use Rattle.serve_door.specs.declared.serving.Stop.TheVariants as stop
use Rattle.share_graph.specs.declared.event.Event.TheVariants as event
use Rattle.admin_run.specs.Beginning.{BeginsWith, CannotBegin, DrewLogin}
use Rattle.admin_run.specs.Outside.{Entrances, entrances, Outside, Tells}

-- the line of the first account's login
abbrev pub login_line : Option (List ℕ) → List ℕ
login_line None = []
login_line (Some token) = (codes "login " ++ token) ++ codes "\n"

-- the line of how many requests were answered
abbrev pub served_line : ℕ → List ℕ
served_line answered = (codes "served " ++ decimal answered) ++ codes "\n"

-- the event gives the account no other login
abbrev pub LeavesLogin : AccountId → Event → Type 0
LeavesLogin a (event.LoginSet b login) = b ≢ a
LeavesLogin a e = Unit {0}

-- each account is still there, and with its login, unless some of the events gave it another one
abbrev pub KeepLogins : Tables → List Event → Tables → Type 0
KeepLogins t history u = (a : AccountId) (account : Account) → IsAccount t a account
    → (now : Account) × IsAccount u a now × (AllByRecursion (LeavesLogin a) history → now.login ≡ account.login)

-- What is printed where serving stopped, behind a text, and the status: how many requests were answered, where all was served.
abbrev pub TellsStop : Stop → List ℕ → ℕ → Outlet → Outlet → ℕ → Type 0
TellsStop stop.All text answered old new status = Tells old new (text ++ served_line answered) 0 status
TellsStop stop.DoorFailed text answered old new status = (status ≡ 4) × Tells old new text 4 4
TellsStop stop.Memory text answered old new status = (status ≡ 7) × Tells old new text 7 7

-- NOTHING WAS SERVED: the text couldn't be printed, or memory ran out behind it.
pub record ServesNone (text : List ℕ) (history : List Event) (old new : Entrances) (out out' : Outlet)
    (status : ℕ) : Type 0 where
  pub none : history ≡ []
  pub untaken : given_and_back new.door ≡ given_and_back old.door
  pub halls_untaken : given_and_back new.halls ≡ given_and_back old.halls
  pub told : Tells out out' text 7 status

-- WORKERS SERVED at a door, which is to give so many connections, and at halls, which are to give so many tunnels: one at each
-- of the two, 127 others at handles of the door, and 63 at handles of the halls, where there are tunnels. The handles were taken
-- back.
pub record ServesAtOnce (law : Law) (start : State) (count tunnels : ℕ) (text : List ℕ) (history : List Event)
    (old new : Entrances) (out out' : Outlet) (status : ℕ) : Type 0 where
  pub others : ℕ
  pub no_others : tunnels ≡ 0 → others ≡ 0
  pub some_others : 0 < tunnels → others ≡ 63
  pub before : List Posts
  pub hired : AreStaff (expecting old.door count) 127 (expecting old.halls tunnels) others before
  pub handles : List Post
  pub main : Post
  pub hall_handles : List Post
  pub hall : Post
  pub done : DoneAtOnce WorksBoth law start history before
      (workers_at (handles ++ main ∷ []) (hall_handles ++ hall ∷ []))
  pub taken_back : new.door ≡ with_handles main.doorway handles
  pub halls_taken_back : new.halls ≡ with_handles hall.doorway hall_handles
  pub stopped : Stopped
  pub stopped_is : stopped
      ≡ together (all_together main.stopped handles) (all_together hall.stopped hall_handles)
  pub told : TellsStop stopped.stop text stopped.answered out out' status

-- either
abbrev pub EndsServing : Law → State → ℕ → ℕ → List ℕ → List Event → Entrances → Entrances → Outlet → Outlet → ℕ
    → Type 0
EndsServing law start count tunnels text history old new out out' status =
    ServesNone text history old new out out' status
    ⊎ ServesAtOnce law start count tunnels text history old new out out' status

-- Connections and tunnels are served, or none is, on a history that the keeper, the secrets and the spawner were told of.
pub record ServesHistory (law : Law) (start : State) (count tunnels : ℕ) (may_leave : List Row → Type 0)
    (holds holds' : Backing) (old new : Entrances) (out out' : Outlet) (status : ℕ) : Type 0 where
  pub history : List Event
  pub stored : IsStored holds'.keeping (replay start history).tables
  pub outlive : OutliveStops holds'.keeping may_leave
  pub kept : HasKept start holds holds' history
  pub ends : EndsServing law start count tunnels [] history old new out out' status

-- THE HEADLINE of `serve`. A history begins with the tables of the rows that the keeper told, or of the first account, whose login's token is printed; connections
-- and tunnels are served on it; and the keeper has the tables at its end, in which each account still has its login, unless it was given another. The secrets that were
-- drawn are the login's, where there is a first account, and then those of the orders. The spawner was told the starts and stops of its
-- entries, and no count fell. Neither the input nor the link is asked, and the clock stands where it stood. What a stop may leave at its end is the rows of these tables, or those after one event more.
pub record ServesFrom (law : Law) (count tunnels : ℕ) (may_leave : List Row → Type 0) (old new : Outside) (status : ℕ)
    : Type 0 where
  pub tables : Tables
  pub login : Option (List ℕ)
  pub begins : BeginsWith old.holds.keeping new.holds.keeping tables login
  pub history : List Event
  pub stored : IsStored new.holds.keeping (replay (opened tables) history).tables
  pub outlive : OutliveStops new.holds.keeping may_leave
  pub logins_stay : KeepLogins tables history (replay (opened tables) history).tables
  pub drew : (between : Option Coming) × DrewLogin login old.holds.drawer.coming between
      × ((drawn : List (List ℕ)) × DrawsAll between new.holds.drawer.coming drawn)
  pub spawned : SpawnedSince (opened tables) old.holds.spawns new.holds.spawns history
  pub counts : CountsOn old.holds new.holds
  pub ends : EndsServing law (opened tables) count tunnels (login_line login) history
      (entrances old) (entrances new) old.outlet new.outlet status
  pub others : new
      ≡ record old { outlet = new.outlet; holds = new.holds; doorway = new.doorway; hallway = new.hallway }

-- Nothing is printed or served, since it can't begin.
pub record StopsEarly (old new : Outside) (status : ℕ) : Type 0 where
  pub fails : CannotBegin old.holds.keeping new.holds.keeping old.holds.drawer new.holds.drawer status
  pub others : new
      ≡ record old { holds = record old.holds { keeping = new.holds.keeping; drawer = new.holds.drawer } }

-- what `serve` does, with what a stop may leave of the keeper at its end
abbrev pub Serves : Law → ℕ → ℕ → (List Row → Type 0) → Outside → Outside → ℕ → Type 0
Serves law count tunnels may_leave old new status =
    StopsEarly old new status ⊎ ServesFrom law count tunnels may_leave old new status
