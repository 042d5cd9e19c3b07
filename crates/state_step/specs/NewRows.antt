-- WHAT FITS, by the kind of event: each record is all that whoever adds a row owes.
use Rattle.std.specs.Prelude.{◌≡◌, ◌≢◌, ◌<◌, ◌+◌, ◌==◌, ℕ, Contains, List, count_by, length, true, Option, Some, None}
use Rattle.app_manifest.specs.declared.manifest.Manifest.{Manifest}
use Rattle.host_base.specs.declared.digest.Digest.{Digest}
use Rattle.host_base.specs.declared.ids.AccountId.{AccountId}
use Rattle.host_base.specs.declared.ids.AppId.{AppId}
use Rattle.share_graph.specs.declared.event.Event.TheVariants as event
use Rattle.share_graph.specs.declared.grants.Grant.{Grant}
use Rattle.share_graph.specs.declared.grants.Target.TheVariants as target
use Rattle.share_graph.specs.declared.rows.Account.{Account}
use Rattle.share_graph.specs.declared.rows.App.{App}
use Rattle.share_graph.specs.declared.rows.Grain.{Grain}
use Rattle.share_graph.specs.declared.rows.Saved.{Saved}
use Rattle.share_graph.specs.declared.sessions.Handle.{Handle}
use Rattle.share_graph.specs.declared.sessions.Run.{Run}
use Rattle.share_graph.specs.declared.sessions.Session.{Session}
use Rattle.share_graph.specs.declared.state.State.{State}
use Rattle.share_graph.specs.EventFits.{HasChanged}
use Rattle.share_graph.specs.Fitting.{IsSoundManifest, SetsFit, SharesWell, IsReference}
use Rattle.share_graph.specs.Fresh.{is_handle}
use Rattle.share_graph.specs.Keys.{IsOneOf, IsNoneOf, IsLiveRun}
use Rattle.share_graph.specs.Kinds.{IsUnused}
use Rattle.share_graph.specs.Known.{HasGrain, KnowsOfGrain, KnowsOfGrant, KnowsOfSaved}
use Rattle.share_graph.specs.Parents.{HasParent}
use Rattle.share_graph.specs.WellFormed.{IsRootedSession, IsRootedHandle}

-- no row has the digest, where there is one
abbrev pub IsUnusedBy : State → Option Digest → Type 0
IsUnusedBy s None = Unit {0}
IsUnusedBy s (Some d) = IsUnused s d

-- how many handles a run has
abbrev pub handles_of : List Handle → Handle → ℕ
handles_of handles handle = count_by (λ (other : Handle). other.run.0 == handle.run.0) handles

-- a new account: the next number, room, a handle of the right form that no account has, a login that no row has
pub record IsNewAccount (s : State) (account : Account) : Type 0 where
  pub num : account.num.0 ≡ length s.tables.accounts + 1
  pub room : length s.tables.accounts < 4096
  pub formed : is_handle account.handle ≡ true
  pub free : (other : Account) → Contains s.tables.accounts other → other.handle ≢ account.handle
  pub unused : IsUnused s account.login

-- a new login of an account that is there: one that no row has
pub record IsNewLogin (s : State) (a : AccountId) (login : Digest) : Type 0 where
  pub changed : HasChanged s (event.LoginSet a login)
  pub unused : IsUnused s login

-- a new application: the next number, room, a sound manifest
pub record IsNewApp (s : State) (app : App) : Type 0 where
  pub num : app.num.0 ≡ length s.tables.apps + 1
  pub room : length s.tables.apps < 256
  pub sound : IsSoundManifest app.manifest

-- a new manifest of an application that is there: sound, and what fitted the old one fits it
pub record IsNewManifest (s : State) (p : AppId) (manifest : Manifest) : Type 0 where
  pub sound : IsSoundManifest manifest
  pub changed : HasChanged s (event.AppUpgraded p manifest)

-- a new grain: the next number, room, an application and an owner that are there
pub record IsNewGrain (s : State) (grain : Grain) : Type 0 where
  pub num : grain.num.0 ≡ length s.tables.grains + 1
  pub room : length s.tables.grains < 16384
  pub knows : KnowsOfGrain s.tables grain

-- a new grant: the next number, room, rows that are there, a giver that may give it, sets that fit, a token where it has to have
-- one, which no row has
pub record IsNewGrant (s : State) (grant : Grant) : Type 0 where
  pub num : grant.num.0 ≡ length s.tables.grants + 1
  pub room : length s.tables.grants < 65536
  pub knows : KnowsOfGrant s.tables grant
  pub parent : HasParent s.tables grant
  pub sets : SetsFit s.tables grant
  pub shares : SharesWell grant
  pub unused : IsUnusedBy s grant.digest

-- a new saved reference: the next number, room, rows that are there, a grant that its holder claimed, a token that no row has
pub record IsNewReference (s : State) (saved : Saved) : Type 0 where
  pub num : saved.num.0 ≡ length s.tables.saved + 1
  pub room : length s.tables.saved < 65536
  pub knows : KnowsOfSaved s.tables saved
  pub reference : IsReference s.tables saved
  pub unused : IsUnused s saved.digest

-- a new session: the next number, a grain and a root that are there, a key that no row has
pub record IsNewSession (s : State) (session : Session) : Type 0 where
  pub num : session.num.0 ≡ length s.sessions + 1
  pub rooted : IsRootedSession s.tables session
  pub unused : IsUnused s session.digest

-- a new run: the next number, a grain that is there and has no live run, a token that no row has
pub record IsNewRun (s : State) (run : Run) : Type 0 where
  pub num : run.num.0 ≡ length s.runs + 1
  pub grain : HasGrain s.tables run.grain
  pub alone : IsNoneOf s.runs (IsLiveRun run.grain)
  pub unused : IsUnused s run.digest

-- a new handle: the next number of its run, which is there, to a grant that the run's grain claimed
pub record IsNewHandle (s : State) (handle : Handle) : Type 0 where
  pub num : handle.num ≡ handles_of s.handles handle + 1
  pub rooted : IsRootedHandle s handle

-- a new claim: a new grant without a token, to the grain of a run that is there, and the next handle of that run to it
pub record IsNewClaim (s : State) (grant : Grant) (handle : Handle) : Type 0 where
  pub new_grant : IsNewGrant s grant
  pub run : Run
  pub is_run : IsOneOf s.runs (λ (other : Run). other.num ≡ handle.run) run
  pub target : grant.target ≡ target.Grain run.grain
  pub names : handle.grant ≡ grant.num
  pub num : handle.num ≡ handles_of s.handles handle + 1
