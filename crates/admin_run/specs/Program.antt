-- What the program does with each of its lines.
use Rattle.std.specs.Prelude.{ℕ, ◌⊎◌, List, String}
use Rattle.std.specs.declared.alloc.Global.{Global}
use Rattle.command_line.specs.declared.line.Line.{Line}
use Rattle.command_line.specs.declared.line.Line.TheVariants as line
use Rattle.admin_run.specs.Terms.{IsLine, Law, Row, tunnels_in}
use Rattle.admin_run.specs.Collecting.{Collects, CollectsNone}
use Rattle.admin_run.specs.Judging.{ChecksRows}
use Rattle.admin_run.specs.Making.{Makes}
use Rattle.admin_run.specs.Outside.{Outside, DoesNothing, TellsUsage}
use Rattle.admin_run.specs.Playing.{Plays, ServesGrain}
use Rattle.admin_run.specs.Reporting.{ReportsOn}
use Rattle.admin_run.specs.Serving.{Serves}
use Rattle.admin_run.specs.declared.reporting.Subject.TheVariants as subject

-- whether a line begins with the small book
abbrev pub FromBook : Line → Type 0
FromBook line.Play = Unit {0}
FromBook (line.Gen count seed) = Unit {0}
FromBook _ = ⊥

-- whether a line has connections served at the door, and tunnels at the halls
abbrev pub AtDoor : Line → Type 0
AtDoor (line.Serve port count tunnels) = Unit {0}
AtDoor _ = ⊥

-- whether a line works with the sites
abbrev pub UsesSites : Line → Type 0
UsesSites line.Play = Unit {0}
UsesSites (line.Gen count seed) = Unit {0}
UsesSites (line.Serve port count tunnels) = Unit {0}
UsesSites (line.Collect n g) = Unit {0}
UsesSites _ = ⊥

-- What a line does, by the law of the sites and what a stop may leave of the keeper at the end; `play` and `gen` want memory
-- before they do anything. Words that are no line get the usage line.
abbrev pub Does : Law → Line → (List Row → Type 0) → Outside → Outside → ℕ → Type 0
Does law line.Play may_leave old new status = Plays law old new status ⊎ DoesNothing old new status
Does law (line.Gen count seed) may_leave old new status =
    Makes law count seed old new status ⊎ DoesNothing old new status
Does law line.Check may_leave old new status = ChecksRows old new status
Does law (line.Grain count) may_leave old new status = ServesGrain count old new status
Does law (line.Serve port count tunnels) may_leave old new status =
    Serves law count (tunnels_in tunnels) may_leave old new status
Does law (line.Access n) may_leave old new status = ReportsOn (subject.Access (record { 0 = n })) old new status
Does law (line.Preview g) may_leave old new status = ReportsOn (subject.Preview (record { 0 = g })) old new status
Does law (line.Collect n g) may_leave old new status =
    Collects law n g may_leave old new status ⊎ CollectsNone old new status
Does law line.Unknown may_leave old new status = TellsUsage old new status

-- the words begin with the small book
abbrev pub BeginWithBook : List (String Global) → Type 0
BeginWithBook words = (l : Line) × IsLine words l × FromBook l

-- the words have connections served at the door
abbrev pub ServeAtDoor : List (String Global) → Type 0
ServeAtDoor words = (l : Line) × IsLine words l × AtDoor l

-- the words are of a line that works with the sites
abbrev pub NeedSites : List (String Global) → Type 0
NeedSites words = (l : Line) × IsLine words l × UsesSites l
