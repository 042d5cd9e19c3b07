-- The rows that the commands add, and the tests of this desk alone.
use Rattle.std.specs.Prelude.{◌≡◌, ◌⊎◌, ℕ, Option, Some, None, count_by, nat_lt, if◌then◌else◌, true, false}
use Rattle.std.specs.Option.{unwrap_or}
use Rattle.desk_base.specs.Terms.{Account, Digest, Grain, GrainId, is_open_of, IsLiveRun, IsOneOf, Made, Refusal}
use Rattle.desk_base.specs.Terms.{Root, Run, Session, State}
use Rattle.share_graph.specs.declared.fault.Kind.TheVariants as kind
use Rattle.desk_base.specs.Limits.{too_many, is_open}
use Rattle.desk_base.specs.Made.{next, nothing_made}
use Rattle.session_desk.specs.declared.callers.Actor.{Actor}

-- a new run of a grain is live
abbrev pub new_run : State → GrainId → Digest → Run
new_run s n d = record { num = record { 0 = next s.runs }; grain = n; digest = d; stopped = false }

-- a new session of whoever acts is open; its tab is the named one, else the session's number
abbrev pub new_session : State → Actor → Option ℕ → Digest → Session
new_session s actor tab d = record {
  num = record { 0 = next s.sessions };
  digest = d;
  grain = actor.grain;
  root = actor.root;
  tab = unwrap_or tab (next s.sessions);
  closed = false;
}

abbrev pub made_session : State → Made
made_session s = record nothing_made { session = Some (next s.sessions) }

-- a run of the grain is live
abbrev pub IsRunning : State → GrainId → Type 0
IsRunning s n = (run : Run) × IsOneOf s.runs (IsLiveRun n) run

-- the account owns the grain, or is an admin
abbrev pub MayStop : Account → Grain → Type 0
MayStop account grain = (grain.owner ≡ account.num) ⊎ (account.admin ≡ true)

-- the refusal where a session of the root would be one too many; a root with 32 open sessions has one of its own closed for it
abbrev pub session_limit : State → Root → Option Refusal
session_limit s root = if nat_lt (count_by (is_open_of root) s.sessions) 32 then too_many kind.Session (count_by is_open s.sessions) else None
