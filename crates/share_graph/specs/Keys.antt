use Rattle.std.specs.Prelude.{◌≡◌, ◌++◌, ◌∷◌, ℕ, Contains, List, Some, false}
use Rattle.host_base.specs.declared.digest.Digest.{Digest}
use Rattle.host_base.specs.declared.ids.AccountId.{AccountId}
use Rattle.host_base.specs.declared.ids.GrainId.{GrainId}
use Rattle.host_base.specs.declared.ids.GrantId.{GrantId}
use Rattle.host_base.specs.declared.ids.RunId.{RunId}
use Rattle.share_graph.specs.declared.grants.Giver.TheVariants as giver
use Rattle.share_graph.specs.declared.grants.Grant.{Grant}
use Rattle.share_graph.specs.declared.grants.Target.{Target}
use Rattle.share_graph.specs.declared.grants.Target.TheVariants as target
use Rattle.share_graph.specs.declared.rows.Account.{Account}
use Rattle.share_graph.specs.declared.rows.Saved.{Saved}
use Rattle.share_graph.specs.declared.sessions.Handle.{Handle}
use Rattle.share_graph.specs.declared.sessions.Run.{Run}
use Rattle.share_graph.specs.declared.sessions.Session.{Session}

-- one of the rows, of which this is so
pub record IsOneOf {X : Type 0} (rows : List X) (P : X → Type 0) (row : X) : Type 0 where
  pub listed : Contains rows row
  pub is : P row

-- the first of the rows of which this is so: it is of none of those before it
pub record IsFirstOf {X : Type 0} (rows : List X) (P : X → Type 0) (row : X) : Type 0 where
  pub before : List X
  pub after : List X
  pub listed : rows ≡ before ++ row ∷ after
  pub is : P row
  pub earlier : (other : X) → Contains before other → P other → ⊥

-- none of the rows is so
abbrev pub IsNoneOf : {X : Type 0} → List X → (X → Type 0) → Type 0
IsNoneOf {X} rows P = (row : X) → Contains rows row → P row → ⊥

-- the digest is that of the account's login, of the grant's token, of the saved reference's token
abbrev pub HasLogin : Digest → Account → Type 0
HasLogin d account = account.login ≡ d

abbrev pub HasToken : Digest → Grant → Type 0
HasToken d grant = grant.digest ≡ Some d

abbrev pub HasReference : Digest → Saved → Type 0
HasReference d saved = saved.digest ≡ d

-- the account has the handle
abbrev pub HasHandle : List ℕ → Account → Type 0
HasHandle handle account = account.handle ≡ handle

-- the digest is that of the session's key, of the run's token
abbrev pub HasKey : Digest → Session → Type 0
HasKey d session = session.digest ≡ d

abbrev pub HasRunToken : Digest → Run → Type 0
HasRunToken d run = run.digest ≡ d

-- the run is one of the grain, and isn't stopped
abbrev pub IsLiveRun : GrainId → Run → Type 0
IsLiveRun n run = (run.grain ≡ n) × (run.stopped ≡ false)

-- the handle is the run's, of that number
abbrev pub IsHandleOf : RunId → ℕ → Handle → Type 0
IsHandleOf r num handle = (handle.run ≡ r) × (handle.num ≡ num)

-- the handle is the run's, and to the grant
abbrev pub IsHandleTo : RunId → GrantId → Handle → Type 0
IsHandleTo r g handle = (handle.run ≡ r) × (handle.grant ≡ g)

-- the grant was given from grant g
abbrev pub IsGivenFrom : GrantId → Grant → Type 0
IsGivenFrom g grant = grant.giver ≡ giver.Grant g

-- the grant was given from grant g to the account, and isn't revoked
pub record IsShareFrom (g : GrantId) (a : AccountId) (grant : Grant) : Type 0 where
  pub from : grant.giver ≡ giver.Grant g
  pub to : grant.target ≡ target.User a
  pub live : grant.revoked ≡ false

-- the target is whoever bears the grant's token
abbrev pub IsBearer : Target → Type 0
IsBearer (target.Bearer for_sharing) = Unit {0}
IsBearer (target.User a) = ⊥
IsBearer (target.Claim h) = ⊥
IsBearer (target.Grain h) = ⊥

-- the grant is a bearer's, and its token has the digest
pub record IsBearerOf (d : Digest) (grant : Grant) : Type 0 where
  pub token : HasToken d grant
  pub bearer : IsBearer grant.target
