-- Well-formed states.
use Rattle.std.specs.Prelude.{◌≡◌, ◌≤◌, ◌+◌, ◌==◌, ℕ, All, List, Some, length, take, count_by, slice_get}
use Rattle.host_base.specs.declared.ids.GrainId.{GrainId}
use Rattle.share_graph.specs.declared.grants.Grant.{Grant}
use Rattle.share_graph.specs.declared.grants.Target.TheVariants as target
use Rattle.share_graph.specs.declared.sessions.Handle.{Handle}
use Rattle.share_graph.specs.declared.sessions.Root.{Root}
use Rattle.share_graph.specs.declared.sessions.Root.TheVariants as root
use Rattle.share_graph.specs.declared.sessions.Run.{Run}
use Rattle.share_graph.specs.declared.sessions.Session.{Session}
use Rattle.share_graph.specs.declared.state.State.{State}
use Rattle.share_graph.specs.declared.state.Tables.{Tables}
use Rattle.share_graph.specs.Checked.{IsChecked}
use Rattle.share_graph.specs.Keys.{IsOneOf, IsBearer, IsLiveRun}
use Rattle.share_graph.specs.Kinds.{AreApart}
use Rattle.share_graph.specs.Known.{HasAccount, HasGrain}
use Rattle.share_graph.specs.Rows.{IsGrant}

-- a session on a grain acts as an account that is there, or as the bearer of a grant on that grain
abbrev pub MayRoot : Tables → GrainId → Root → Type 0
MayRoot t n (root.Account a) = HasAccount t a
MayRoot t n (root.Grant g) = (grant : Grant) × IsGrant t g grant × (grant.grain ≡ n) × IsBearer grant.target

pub record IsRootedSession (t : Tables) (session : Session) : Type 0 where
  pub grain : HasGrain t session.grain
  pub root : MayRoot t session.grain session.root

-- a handle's run is there, and its grant is one that the run's grain claimed
pub record IsRootedHandle (s : State) (handle : Handle) : Type 0 where
  pub run : Run
  pub grant : Grant
  pub is_run : IsOneOf s.runs (λ run. run.num ≡ handle.run) run
  pub is_grant : IsGrant s.tables handle.grant grant
  pub claimed : grant.target ≡ target.Grain run.grain

-- What sessions, runs and handles name is there.
pub record IsRooted (s : State) : Type 0 where
  pub sessions : All (IsRootedSession s.tables) s.sessions
  pub runs : All (λ run. HasGrain s.tables run.grain) s.runs
  pub handles : All (IsRootedHandle s) s.handles

-- how many rows there may be of each kind
pub record IsWithinLimits (t : Tables) : Type 0 where
  pub accounts : length t.accounts ≤ 4096
  pub apps : length t.apps ≤ 256
  pub grains : length t.grains ≤ 16384
  pub grants : length t.grants ≤ 65536
  pub saved : length t.saved ≤ 65536

-- each row carries the number of its place, from 1
abbrev pub AreNumbered : {X : Type 0} → (X → ℕ) → List X → Type 0
AreNumbered {X} num rows = (i : ℕ) (row : X) → slice_get rows i ≡ Some row → num row ≡ i + 1

-- each handle carries the number of its place among those of its run, from 1
abbrev pub AreNumberedByRun : List Handle → Type 0
AreNumberedByRun handles =
    (i : ℕ) (handle : Handle) → slice_get handles i ≡ Some handle → handle.num ≡ count_by (λ other. other.run.0 == handle.run.0) (take i handles) + 1

pub record IsNumbered (s : State) : Type 0 where
  pub accounts : AreNumbered (λ account. account.num.0) s.tables.accounts
  pub apps : AreNumbered (λ app. app.num.0) s.tables.apps
  pub grains : AreNumbered (λ grain. grain.num.0) s.tables.grains
  pub grants : AreNumbered (λ grant. grant.num.0) s.tables.grants
  pub saved : AreNumbered (λ saved. saved.num.0) s.tables.saved
  pub sessions : AreNumbered (λ session. session.num.0) s.sessions
  pub runs : AreNumbered (λ run. run.num.0) s.runs
  pub handles : AreNumberedByRun s.handles

-- a grain has one live run at the most
abbrev pub HaveOneLiveRun : List Run → Type 0
HaveOneLiveRun runs =
    (n : GrainId) (i j : ℕ) (run other : Run) → slice_get runs i ≡ Some run → slice_get runs j ≡ Some other → IsLiveRun n run → IsLiveRun n other → i ≡ j

-- A WELL-FORMED STATE: tables without a fault and within their limits, rows that carry their numbers, each digest one row's, one live
-- run of a grain at the most, and sessions, runs and handles of what is there.
pub record IsWellFormed (s : State) : Type 0 where
  pub tables : IsChecked s.tables
  pub limits : IsWithinLimits s.tables
  pub numbered : IsNumbered s
  pub apart : AreApart s
  pub live : HaveOneLiveRun s.runs
  pub rooted : IsRooted s
