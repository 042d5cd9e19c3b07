-- How many rows there may be: where an event's row would be one too many. A digest has no part in that.
use Rattle.std.specs.Prelude.{◌≡◌, ◌⊎◌, ℕ, Bool, length, count_by, Option, Some, None, nat_le, nat_lt, replicate, not, if◌then◌else◌}
use Rattle.desk_base.specs.Terms.{Digest, Event, is_open_of, Kind, Refusal, Session, State}
use Rattle.share_graph.specs.declared.event.Event.TheVariants as event
use Rattle.share_graph.specs.declared.fault.Kind.TheVariants as kind
use Rattle.share_graph.specs.declared.refusal.Refusal.TheVariants.{TooMany}
use Rattle.state_step.specs.NewRows.{handles_of}
use Rattle.desk_base.specs.Steps.{Change, Plain, Drawn, Step, Refuses, Keeps, Makes}

-- the most entries of commands: the other 65,536 of a million are for ticks, which are never refused
abbrev pub most_entries : ℕ
most_entries = 934464

-- the most rows of a kind; handles are those of one run, and open sessions are meant. Of runs there may be any number.
abbrev pub most_of : Kind → Option ℕ
most_of kind.Account = Some 4096
most_of kind.App = Some 256
most_of kind.Grain = Some 16384
most_of kind.Grant = Some 65536
most_of kind.Saved = Some 65536
most_of kind.Session = Some 4096
most_of kind.Handle = Some 4096
most_of kind.Run = None
most_of kind.Entry = Some most_entries

-- the refusal where so many of a kind are there already
abbrev pub over : Kind → Option ℕ → ℕ → Option Refusal
over k (Some limit) count = if nat_le limit count then Some (TooMany k limit) else None
over k None count = None

abbrev pub too_many : Kind → ℕ → Option Refusal
too_many k count = over k (most_of k) count

abbrev pub first_of : Option Refusal → Option Refusal → Option Refusal
first_of (Some r) other = Some r
first_of None other = other

abbrev pub is_open : Session → Bool
is_open session = not session.closed

-- A root with 32 open sessions may open another one, since one of its own is closed for it.
abbrev pub limit_of : State → Event → Option Refusal
limit_of s (event.AccountAdded account) = too_many kind.Account (length s.tables.accounts)
limit_of s (event.AppAdded app) = too_many kind.App (length s.tables.apps)
limit_of s (event.GrainAdded grain) = too_many kind.Grain (length s.tables.grains)
limit_of s (event.GrantAdded grant) = too_many kind.Grant (length s.tables.grants)
limit_of s (event.SavedAdded saved) = too_many kind.Saved (length s.tables.saved)
limit_of s (event.Claimed grant handle) = first_of (too_many kind.Grant (length s.tables.grants)) (too_many kind.Handle (handles_of s.handles handle))
limit_of s (event.HandleMade handle) = too_many kind.Handle (handles_of s.handles handle)
limit_of s (event.SessionOpened session) =
    if nat_lt (count_by (is_open_of session.root) s.sessions) 32 then too_many kind.Session (count_by is_open s.sessions) else None
limit_of s (event.AppUpgraded p manifest) = None
limit_of s (event.AdminSet a on) = None
limit_of s (event.EnabledSet a on) = None
limit_of s (event.LoginSet a login) = None
limit_of s (event.TrashedSet n on) = None
limit_of s (event.GrantRevoked g) = None
limit_of s (event.SavedDropped v) = None
limit_of s (event.RunStarted run) = None
limit_of s (event.RunStopped r) = None
limit_of s (event.SessionClosed n) = None
limit_of s (event.Ticked m) = None

abbrev pub no_digest : Digest
no_digest = record { 0 = replicate 32 0 }

abbrev pub event_at : Change → Digest → Event
event_at (Plain e) d = e
event_at (Drawn f) d = f d

abbrev pub limit_at : State → Step → Option Refusal
limit_at s (Makes change made) = limit_of s (event_at change no_digest)
limit_at s (Refuses r) = None
limit_at s (Keeps made) = None

-- the change, where its row isn't one too many
abbrev pub adds : State → Step → Step → Type 0
adds s change step = ((r : Refusal) × (step ≡ Refuses r) × (limit_at s change ≡ Some r)) ⊎ ((step ≡ change) × (limit_at s change ≡ None))
