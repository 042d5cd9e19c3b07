-- What `play` and `grain` do.
use Rattle.std.specs.Prelude.{◌≡◌, ◌≢◌, ℕ, ◌<◌, ◌⊎◌, List, Some, length}
use Rattle.admin_run.specs.Terms.{CountStands, GrainEnd, IsStream, Law, limit, Prints, Requests, Takes}
use Rattle.grain_program.specs.declared.grain.GrainEnd.TheVariants as grain_end
use Rattle.admin_run.specs.Connection.{ServesBook}
use Rattle.admin_run.specs.Outside.{Outside, wired}
use Rattle.admin_run.specs.Statuses.{status_by, status_of_grain, status_of_stream}

-- `play`: a connection over the program's input and output was served from the small book, and the status is that of its
-- end: where neither count rose, of a stream below the limit as the stream ends, or memory ran out. The door and the clock
-- aren't asked.
pub record Plays (law : Law) (old new : Outside) (status : ℕ) : Type 0 where
  pub connection : ServesBook law (wired old) (wired new) old.holds new.holds
  pub status_is : status ≡ status_by connection.end.end
  pub complete : (bytes : List ℕ) (requests : Requests) → old.inlet.left ≡ Some bytes
      → IsStream 0 bytes requests → length requests.list < limit
      → CountStands old.inlet.faults new.inlet.faults → CountStands old.outlet.faults new.outlet.faults
      → (status ≡ 7) ⊎ (status ≡ status_of_stream requests.end)
  pub others : new ≡ record old { inlet = new.inlet; outlet = new.outlet; line = new.line; holds = new.holds }

-- `grain`: the line `ready` was printed, and connections were taken at the door: all at status 0. Nothing else is asked.
pub record ServesGrain (count : ℕ) (old new : Outside) (status : ℕ) : Type 0 where
  pub end : GrainEnd
  pub status_is : status ≡ status_of_grain end
  pub printed : (text : List ℕ) → old.outlet.written ≡ Some text → Prints text end new.outlet.written
  pub taken : end ≢ grain_end.WriteFailed → Takes count old.doorway new.doorway end
  pub others : new ≡ record old { outlet = new.outlet; doorway = new.doorway }
