-- What `gen` does.
use Rattle.std.specs.Prelude.{◌≡◌, ℕ, ◌⊎◌, List, [], Some, length}
use Rattle.admin_run.specs.Terms.{End, generated, is_at_end, Law, Outlet, Wired}
use Rattle.cloud_serve.specs.declared.serve.End.TheVariants as end
use Rattle.grain_supervise.specs.Line.{Line}
use Rattle.admin_run.specs.Lines.{summary_lines}
use Rattle.admin_run.specs.Connection.{ServesBook}
use Rattle.admin_run.specs.Outside.{Outside, Tells}
use Rattle.admin_run.specs.Statuses.{status_of_made}

-- What is printed: the summary where all was answered, or nothing for want of memory; and else nothing, and the status.
abbrev pub TellsMade : End → ℕ → ℕ → ℕ → List ℕ → Outlet → Outlet → ℕ → Type 0
TellsMade end.Done served forwarded entries output old new status =
    Tells old new (summary_lines served forwarded entries output) 0 status ⊎ ((status ≡ 7) × (new ≡ old))
TellsMade other served forwarded entries output old new status = (status ≡ status_of_made other) × (new ≡ old)

-- a connection over memory, of whose bytes none was taken and to which nothing was written, and its link
abbrev pub over_memory : List ℕ → Line → Wired
over_memory bytes line = record {
  inlet = record { faults = 0; ended = is_at_end bytes; left = Some bytes; whole = Some bytes };
  outlet = record { faults = 0; written = Some [] };
  line = line;
}

-- `gen`: a connection over memory, whose input is the requests of a seed, was served from the small book, and its summary printed.
-- The program's own input isn't taken, nor are the door and the clock asked.
pub record Makes (law : Law) (count seed : ℕ) (old new : Outside) (status : ℕ) : Type 0 where
  pub wire : Wired
  pub line_is : wire.line ≡ new.line
  pub connection : ServesBook law (over_memory (generated count seed) old.line) wire old.holds new.holds
  pub output : List ℕ
  pub output_is : wire.outlet.written ≡ Some output
  pub told : TellsMade connection.end.end connection.end.served connection.end.forwarded
      (length connection.history) output old.outlet new.outlet status
  pub others : new ≡ record old { outlet = new.outlet; line = new.line; holds = new.holds }
