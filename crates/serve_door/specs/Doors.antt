-- What is known of where connections and tunnels come in, and of those that were given back.
use Rattle.std.specs.Prelude.{◌≡◌, ℕ, ◌+◌, ◌<◌, ◌≤◌, ◌++◌, min, List, [], ◌∷◌, Option, Some, option_map, length, map}
use Rattle.host_base.specs.InMemory.{MemInput, MemOutput}
use Rattle.host_base.specs.Outside.{Inlet, Outlet}
use Rattle.grain_supervise.specs.Line.{Line}
use Rattle.cloud_serve.specs.Served.{Wired}
use Rattle.cloud_serve.specs.declared.serve.ConnEnd.{ConnEnd}
use Rattle.ws_tunnel.specs.Hall.{Hall}
use Rattle.ws_tunnel.specs.declared.message.Message.{Message}
use Rattle.ws_tunnel.specs.InMemory.{MemHall}
use Rattle.tunnel_serve.specs.declared.tunnel_end.TunnelEnd.{TunnelEnd}

-- A connection as it stands once it was served: what its source, its sink and its link tell, and how it ended.
pub record Connection : Type 0 where
  pub wire : Wired
  pub end : ConnEnd

-- A tunnel as it stands once it was served: what its messages and its link tell, and how it ended.
pub record Tunnel : Type 0 where
  pub hall : Hall
  pub line : Line
  pub end : TunnelEnd

-- What came in and was served: a connection, or a tunnel.
pub data Visit : Type 0 where
  Connected : Connection → Visit
  Tunneled : Tunnel → Visit

abbrev pub connection : Inlet → Outlet → Line → ConnEnd → Connection
connection inlet outlet line end =
    record { wire = record { inlet = inlet; outlet = outlet; line = line }; end = end }

abbrev pub tunnel : Hall → Line → TunnelEnd → Tunnel
tunnel hall line end = record { hall = hall; line = line; end = end }

-- The traffic at a door: how many visits it is to give in all, how many it gave, and those that were given back, in their
-- order.
pub record Traffic : Type 0 where
  pub planned : ℕ
  pub given : ℕ
  pub returned : List Visit

-- What a door tells: its faults, and its traffic, where it tells that.
pub record Doorway : Type 0 where
  pub faults : ℕ
  pub traffic : Option Traffic

-- this holds of a door's traffic, where it tells it
abbrev pub WhereTold : Doorway → (Traffic → Type 0) → Type 0
WhereTold door holds = (traffic : Traffic) → door.traffic ≡ Some traffic → holds traffic

-- the door with what becomes of its traffic
abbrev pub with_traffic : Doorway → (Traffic → Traffic) → Doorway
with_traffic door becomes = record door { traffic = option_map becomes door.traffic }

-- it is to give so many from now on
abbrev pub expecting : Doorway → ℕ → Doorway
expecting door count = with_traffic door (λ t. record t { planned = t.given + count })

-- it gave one
abbrev pub one_given : Doorway → Doorway
one_given door = with_traffic door (λ t. record t { given = t.given + 1 })

-- one came back
abbrev pub given_back : Doorway → Visit → Doorway
given_back door one = with_traffic door (λ t. record t { returned = t.returned ++ one ∷ [] })

-- a further handle of a door, which is to give none where the door tells its traffic
abbrev pub further : Doorway → Doorway
further door = record {
  faults = 0;
  traffic = option_map (λ (t : Traffic). record { planned = 0; given = 0; returned = [] }) door.traffic;
}

-- a door that took such a handle back
abbrev pub with_faults_of : Doorway → Doorway → Doorway
with_faults_of door handle = record door { faults = min (door.faults + handle.faults) 18446744073709551615 }

-- how many a door gave and what came back, where it tells that
abbrev pub given_and_back : Doorway → Option (ℕ × List Visit)
given_and_back door = option_map (λ t. (t.given, t.returned)) door.traffic

-- it is to give one more
abbrev pub IsDue : Doorway → Type 0
IsDue door = WhereTold door (λ t. t.given < t.planned)

-- it gave all that it was to give
abbrev pub HasGivenAll : Doorway → Type 0
HasGivenAll door = WhereTold door (λ t. t.given ≡ t.planned)

-- it gave no more than it was to give
abbrev pub IsWithinPlan : Doorway → Type 0
IsWithinPlan door = WhereTold door (λ t. t.given ≤ t.planned)

-- one that it gave didn't come back yet
abbrev pub IsOneOut : Doorway → Type 0
IsOneOut door = WhereTold door (λ t. length t.returned < t.given)

-- no more came back than it gave
abbrev pub IsInOrder : Doorway → Type 0
IsInOrder door = WhereTold door (λ t. length t.returned ≤ t.given)

-- A source without a fault, all of whose input is left where it tells it.
pub record IsFreshInlet (inlet : Inlet) : Type 0 where
  pub faults : inlet.faults ≡ 0
  pub left : inlet.left ≡ inlet.whole

-- A sink without a fault, to which nothing was written where it tells what was.
pub record IsFreshOutlet (outlet : Outlet) : Type 0 where
  pub faults : outlet.faults ≡ 0
  pub nothing : (written : List ℕ) → outlet.written ≡ Some written → written ≡ []

-- Messages without a fault, of which none was taken and none was put where they tell that.
pub record IsFreshHall (hall : Hall) : Type 0 where
  pub faults : hall.faults ≡ 0
  pub left : hall.left ≡ hall.whole
  pub nothing : (put : List Message) → hall.put ≡ Some put → put ≡ []

-- A door in memory: the connections that are left, how many of them it is still to give, how many it gave, its faults, and
-- those that came back.
pub record MemDoorway : Type 0 where
  pub left : List (MemInput × MemOutput)
  pub due : ℕ
  pub given : ℕ
  pub faults : ℕ
  pub kept : List Connection

-- what is told of so many that are still due, so many that were given, and those that came back
abbrev pub told : ℕ → ℕ → ℕ → List Visit → Doorway
told due given faults returned = record {
  faults = faults;
  traffic = Some (record { planned = given + due; given = given; returned = returned });
}

-- what it tells
abbrev pub mem_doorway : MemDoorway → Doorway
mem_doorway door = told door.due door.given door.faults (map Connected door.kept)

-- A source and a sink in memory without a fault, of which nothing was taken and to which nothing was written.
pub record IsFreshPair (pair : MemInput × MemOutput) : Type 0 where
  pub read_faults : pair.0.count.faults ≡ 0
  pub untaken : pair.0.left ≡ pair.0.whole
  pub write_faults : pair.1.count.faults ≡ 0
  pub unwritten : pair.1.written ≡ []

-- Halls in memory: the tunnels that are left, how many of them they are still to give, how many they gave, their faults, and
-- those that came back.
pub record MemHallway : Type 0 where
  pub left : List MemHall
  pub due : ℕ
  pub given : ℕ
  pub faults : ℕ
  pub kept : List Tunnel

-- what they tell
abbrev pub mem_hallway : MemHallway → Doorway
mem_hallway halls = told halls.due halls.given halls.faults (map Tunneled halls.kept)

-- Messages in memory without a fault, of which none was taken and none was put.
pub record IsFreshList (hall : MemHall) : Type 0 where
  pub faults : hall.count.faults ≡ 0
  pub untaken : hall.left ≡ hall.whole
  pub unput : hall.put ≡ []
