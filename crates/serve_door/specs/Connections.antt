-- Connections and tunnels that are served one after another by one desk.
use Rattle.std.specs.Prelude.{◌≡◌, ℕ, ◌+◌, ◌++◌, List, [], ◌∷◌, length, min, sum_by}
use Rattle.grain_supervise.specs.Line.{fresh_line}
use Rattle.hub_core.specs.Book.{Book}
use Rattle.cloud_serve.specs.Served.{World, Served, with_book}
use Rattle.tunnel_serve.specs.Tunnels.{Course, IsRun, Wired}
use Rattle.serve_door.specs.Doors.{Connected, Connection, Doorway, IsFreshHall, IsFreshInlet, IsFreshOutlet, Tunnel, Tunneled, Visit, with_traffic}

-- A CONNECTION WAS SERVED by a desk, and stands so now: by the headline, from an input of which nothing was read, to an
-- output to which nothing was written, over a link without a fault of which nothing was asked. The desk told the one thing
-- before it and tells the other behind it.
pub record IsServed (before after : Book) (one : Connection) : Type 0 where
  pub old : World
  pub begins : old.book ≡ before
  pub input : IsFreshInlet old.inlet
  pub whole : one.wire.inlet.whole ≡ old.inlet.whole
  pub output : IsFreshOutlet old.outlet
  pub link : old.line ≡ fresh_line old.line
  pub headline : Served old (with_book one.wire after)
      one.end.end one.end.from one.end.places one.end.served one.end.forwarded

-- A TUNNEL WAS SERVED by a desk, and stands so now: by the run of a tunnel, from messages of which none was taken and none was
-- put, over such a link.
pub record IsTunneled (before after : Book) (one : Tunnel) : Type 0 where
  pub old : Wired
  pub messages : IsFreshHall old.hall
  pub link : old.line ≡ fresh_line old.line
  pub course : Course
  pub run : IsRun before after old (record { hall = one.hall; line = one.line }) course
      one.end.end one.end.from one.end.places one.end.passed

-- either
abbrev pub WasServed : Book → Book → Visit → Type 0
WasServed before after (Connected one) = IsServed before after one
WasServed before after (Tunneled one) = IsTunneled before after one

-- how many requests were answered; the messages of a tunnel are none
abbrev pub answered_in : Visit → ℕ
answered_in (Connected one) = one.end.served
answered_in (Tunneled one) = 0

-- They were served one after another, each where the one before it left the desk.
abbrev pub AreServed : Book → Book → List Visit → Type 0
AreServed old new [] = new ≡ old
AreServed old new (one ∷ more) = (between : Book) × WasServed old between one × AreServed between new more

-- what a door tells once it gave these visits and was given them back
abbrev pub door_after : Doorway → ℕ → List Visit → Doorway
door_after door faults list =
    let now = with_traffic door λ t. record t { given = t.given + length list; returned = t.returned ++ list }
    in record now { faults = faults }

-- VISITS WERE TAKEN at a door, served one after another, and given back: those that it tells, where it tells them. The requests
-- that were answered on all of them were counted; a number of 64 bits stays at its last value.
pub record ServesMany (old new : Book) (door door' : Doorway) (answered : ℕ) : Type 0 where
  pub visits : List Visit
  pub served : AreServed old new visits
  pub doorway_is : door' ≡ door_after door door'.faults visits
  pub answered_is : answered ≡ min (sum_by answered_in visits) 18446744073709551615
