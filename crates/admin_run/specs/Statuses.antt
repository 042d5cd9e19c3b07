-- The statuses of ends.
use Rattle.std.specs.Prelude.{ℕ}
use Rattle.admin_run.specs.Terms.{Bad, Cut, End, Ending, GrainEnd}
use Rattle.grain_program.specs.declared.grain.GrainEnd.TheVariants as grain_end
use Rattle.cloud_serve.specs.declared.serve.End.TheVariants as end

-- the status of each end of a connection
abbrev pub status_by : End → ℕ
status_by end.Done = 0
status_by (end.Refused status at) = 3
status_by end.ReadFault = 4
status_by end.WriteFault = 5
status_by (end.CutOff n) = 6
status_by end.Memory = 7
status_by end.Spent = 8

-- the same, of a connection whose input and output are memory: what fails there fails for want of it
abbrev pub status_of_made : End → ℕ
status_of_made end.ReadFault = 7
status_of_made end.WriteFault = 7
status_of_made other = status_by other

-- the status that the end of a stream asks for
abbrev pub status_of_stream : Ending → ℕ
status_of_stream (Cut n) = 6
status_of_stream (Bad refusal at) = 3
status_of_stream _ = 0

-- the status of each end of a grain's program
abbrev pub status_of_grain : GrainEnd → ℕ
status_of_grain grain_end.Done = 0
status_of_grain grain_end.DoorFailed = 4
status_of_grain grain_end.WriteFailed = 5
status_of_grain grain_end.Memory = 7
