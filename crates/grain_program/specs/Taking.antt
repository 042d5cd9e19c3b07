-- The connections that a grain's program takes at its door.
use Rattle.std.specs.Prelude.{◌≡◌, ℕ, ◌+◌, ◌<◌, ◌≤◌, option_map}
use Rattle.grain_program.specs.declared.grain.GrainEnd.{GrainEnd}
use Rattle.grain_program.specs.declared.grain.GrainEnd.TheVariants as grain_end
use Rattle.serve_door.specs.Doors.{Doorway, Traffic}

-- the traffic of a door that was to give so many connections and gave so many
abbrev pub taken_of : ℕ → ℕ → Traffic → Traffic
taken_of count taken t = record t { planned = t.given + count; given = t.given + taken }

-- So many connections at the most were to be given, and taken: all where the program ends as it should, and fewer where the
-- door failed. None is given back.
pub record Takes (count : ℕ) (old new : Doorway) (end : GrainEnd) : Type 0 where
  pub taken : ℕ
  pub most : taken ≤ count
  pub traffic_is : new.traffic ≡ option_map (taken_of count taken) old.traffic
  pub done : end ≡ grain_end.Done → taken ≡ count
  pub failed : end ≡ grain_end.DoorFailed → taken < count
