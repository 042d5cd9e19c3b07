-- Who calls, besides accounts: whoever acts on a grain, and the root that sessions of a caller have.
use Rattle.std.specs.Prelude.{◌≡◌, ◌⊎◌, Option, Some, None}
use Rattle.desk_base.specs.Terms.{Account, AccountId, Caller, found◌or◌then◌, GrainId, Grant, none, Refusal, Root}
use Rattle.desk_base.specs.Terms.{Session, SessionId, State}
use Rattle.share_graph.specs.declared.facts.Node.TheVariants as node
use Rattle.share_graph.specs.declared.fault.Kind.TheVariants as kind
use Rattle.share_graph.specs.declared.refusal.Refusal.TheVariants.{Unknown}
use Rattle.share_graph.specs.declared.sessions.Root.TheVariants as root
use Rattle.share_graph.specs.Callers as callers
use Rattle.share_graph.specs.Callers.{IsSomeLogin}
use Rattle.share_graph.specs.Rows.{IsSession}
use Rattle.desk_base.specs.Calling.{ByLogin, ByBearer, IsCaller, IsNoCaller, IsCallerOn, IsNoCallerOn}
use Rattle.desk_base.specs.Passing.{Passes, Fails}
use Rattle.desk_base.specs.Steps.{Step, Refuses, denies}
use Rattle.desk_base.specs.Wording.{secret_of, by_account, by_bearer, known_grain, access◌of◌then◌}
use Rattle.session_desk.specs.declared.callers.Actor.{Actor}

-- the root that the caller's sessions have: its account where it shows the login of one, else the grant whose token it bears
abbrev pub by_root : State → Caller → (Root → Step → Type 0) → Step → Type 0
by_root s who Rest =
    callers.by_either denies s (secret_of who) (λ account. Rest (root.Account account.num)) (λ grant. Rest (root.Grant grant.num))

-- who acts: an account on a grain, or the bearer of a grant on the grant's grain
abbrev pub account_on : GrainId → AccountId → Actor
account_on n a = record { grain = n; root = root.Account a }

abbrev pub bearer_of : Grant → Actor
bearer_of grant = record { grain = grant.grain; root = root.Grant grant.num }

-- the caller's account on the grain that it names: Unknown(3, n), and access(n), Denied of the first step that is missing there
abbrev pub with_access : State → Caller → GrainId → (Actor → Step → Type 0) → Step → Type 0
with_access s who n Rest =
    by_account s who λ account.
    known_grain s n λ grain.
    access (node.User n account.num) of s then
    Rest (account_on n account.num)

-- a login acts on the grain that it names, and a bearer, which names none, on its grant's
abbrev pub on_grain : State → Caller → Option GrainId → (Actor → Step → Type 0) → Step → Type 0
on_grain s who (Some n) Rest step = ByLogin who × with_access s who n Rest step
on_grain s who None Rest step = ByBearer who × by_bearer s who (λ grant. Rest (bearer_of grant)) step

-- a grain is named exactly where the caller is a login; any other is a bearer
abbrev pub NamesGrain : Caller → Option GrainId → Type 0
NamesGrain who (Some n) = ByLogin who
NamesGrain who None = ByBearer who

-- Unknown, else the session of that number
abbrev pub known_session : State → SessionId → (Session → Step → Type 0) → Step → Type 0
known_session s n Rest = found (IsSession s n) or (none (IsSession s n) (Refuses (Unknown kind.Session n.0))) then Rest

-- what a test of the caller tells: who acts, or why nobody does
abbrev pub IsActor : State → Caller → Option GrainId → Actor → Type 0
IsActor s who (Some n) actor = (account : Account) × IsCallerOn s (secret_of who) n account × (actor ≡ account_on n account.num)
IsActor s who None actor = (grant : Grant) × Passes (by_bearer s who) grant × (actor ≡ bearer_of grant)

abbrev pub IsNoActor : State → Caller → Option GrainId → Refusal → Type 0
IsNoActor s who (Some n) r = IsNoCallerOn s (secret_of who) n r
IsNoActor s who None r = Fails (by_bearer s who) r

-- and which root its sessions have, or why none
abbrev pub IsRootOf : State → Caller → Root → Type 0
IsRootOf s who its =
    ((account : Account) × IsCaller s (secret_of who) account × (its ≡ root.Account account.num))
    ⊎ ((IsSomeLogin s (secret_of who) → ⊥) × ((grant : Grant) × Passes (by_bearer s who) grant × (its ≡ root.Grant grant.num)))

abbrev pub HasNoRoot : State → Caller → Refusal → Type 0
HasNoRoot s who r =
    (IsSomeLogin s (secret_of who) × IsNoCaller s (secret_of who) r)
    ⊎ ((IsSomeLogin s (secret_of who) → ⊥) × Fails (by_bearer s who) r)
