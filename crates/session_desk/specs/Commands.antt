-- THE COMMANDS on runs and sessions. Each definition reads like its row of the table of commands.
use Rattle.std.specs.Prelude.{◌≡◌, ℕ, Option, true}
use Rattle.desk_base.specs.Terms.{Caller, GrainId, IsLiveRun, Root, SessionId, some◌of◌or◌then◌, State}
use Rattle.desk_base.specs.Terms.{unless◌then◌else◌, when◌then◌else◌}
use Rattle.share_graph.specs.declared.event.Event.TheVariants.{RunStarted, RunStopped, SessionOpened, SessionClosed}
use Rattle.share_graph.specs.declared.refusal.Refusal.TheVariants.{NotOwner}
use Rattle.desk_base.specs.Limits.{adds}
use Rattle.desk_base.specs.Made.{nothing_made}
use Rattle.desk_base.specs.Steps.{Step, Refuses, Keeps, Makes, Plain, Drawn}
use Rattle.desk_base.specs.Wording.{by_account, known_grain}
use Rattle.session_desk.specs.Calling.{on_grain, by_root, known_session}
use Rattle.session_desk.specs.Rows.{new_run, new_session, made_session, IsRunning, MayStop}

-- start_run: a login: Unknown(3, n), access(n); a bearer: its grant's grain; same where a run is live
abbrev pub StartRun : State → Caller → Option GrainId → Step → Type 0
StartRun s who n =
    on_grain s who n λ actor.
    when IsRunning s actor.grain then (Keeps nothing_made) else
    adds s (Makes (Drawn λ d. RunStarted (new_run s actor.grain d)) nothing_made)

-- stop_run: Unknown(3, n); NotOwner(n) where the caller is neither the owner nor an admin; same where no run is live
abbrev pub StopRun : State → Caller → GrainId → Step → Type 0
StopRun s who n =
    by_account s who λ account.
    known_grain s n λ grain.
    unless MayStop account grain then (Refuses (NotOwner n)) else
    some IsLiveRun n of s.runs or (Keeps nothing_made) then λ run.
    adds s (Makes (Plain (RunStopped run.num)) nothing_made)

-- open_session: a login: Unknown(3, n), access(n); a bearer: its grant's grain
abbrev pub OpenSession : State → Caller → Option GrainId → Option ℕ → Step → Type 0
OpenSession s who n tab =
    on_grain s who n λ actor.
    adds s (Makes (Drawn λ d. SessionOpened (new_session s actor tab d)) (made_session s))

-- what comes of closing a session for whoever acts as that root
abbrev pub CloseBy : State → SessionId → Root → Step → Type 0
CloseBy s n root =
    known_session s n λ session.
    unless session.root ≡ root then (Refuses (NotOwner session.grain)) else
    when session.closed ≡ true then (Keeps nothing_made) else
    adds s (Makes (Plain (SessionClosed n)) nothing_made)

-- close_session: Unknown(6, n); NotOwner of the session's grain where the caller isn't its root; same where it is closed
abbrev pub CloseSession : State → Caller → SessionId → Step → Type 0
CloseSession s who n = by_root s who (CloseBy s n)
