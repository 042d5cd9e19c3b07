-- Who calls: what a test of the caller establishes, and its refusals.
use Rattle.std.specs.Prelude.{◌≡◌, ◌⊎◌, true}
use Rattle.desk_base.specs.Terms.{Account, Caller, Digest, GrainId, HasGrain, HasLogin, Holds, IsGrain, IsNoneOf}
use Rattle.desk_base.specs.Terms.{IsOneOf, LacksEntry, none, Refusal, State}
use Rattle.host_base.specs.declared.verdict.Denial.TheVariants.{UnknownKey, AccountDisabled}
use Rattle.share_graph.specs.declared.desk.Caller.TheVariants as caller
use Rattle.share_graph.specs.declared.facts.Fact.TheVariants.{Open}
use Rattle.share_graph.specs.declared.facts.Node.TheVariants as node
use Rattle.share_graph.specs.declared.fault.Kind.TheVariants as kind
use Rattle.share_graph.specs.declared.refusal.Refusal.TheVariants.{Denied, NotAdmin, Unknown}

-- the caller is this account, which is enabled
pub record IsCaller (s : State) (d : Digest) (account : Account) : Type 0 where
  pub one : IsOneOf s.tables.accounts (HasLogin d) account
  pub enabled : account.enabled ≡ true

-- the caller is no account, or a disabled one
abbrev pub IsNoCaller : State → Digest → Refusal → Type 0
IsNoCaller s d r =
    ((r ≡ Denied UnknownKey) × IsNoneOf s.tables.accounts (HasLogin d))
    ⊎ ((account : Account) × (r ≡ Denied (AccountDisabled account.num)) × IsOneOf s.tables.accounts (HasLogin d) account × (account.enabled ≡ true → ⊥))

-- the caller is this account, which is enabled and an admin
pub record IsAdminCaller (s : State) (d : Digest) (account : Account) : Type 0 where
  pub caller : IsCaller s d account
  pub admin : account.admin ≡ true

-- the caller is no enabled account, or one that is no admin
abbrev pub IsNoAdminCaller : State → Digest → Refusal → Type 0
IsNoAdminCaller s d r = IsNoCaller s d r ⊎ ((account : Account) × (r ≡ NotAdmin) × IsCaller s d account × (account.admin ≡ true → ⊥))

-- the caller is this account, which is enabled and has access to the grain
pub record IsCallerOn (s : State) (d : Digest) (n : GrainId) (account : Account) : Type 0 where
  pub caller : IsCaller s d account
  pub grain : HasGrain s.tables n
  pub held : Holds s.tables (node.User n account.num) Open

-- the caller is no enabled account, or the grain isn't there, or a step is missing for the account's access
abbrev pub IsNoCallerOn : State → Digest → GrainId → Refusal → Type 0
IsNoCallerOn s d n r =
    IsNoCaller s d r
    ⊎ (((account : Account) × IsCaller s d account × none (IsGrain s.tables n) (Unknown kind.Grain n.0) r)
    ⊎ ((account : Account) × IsCaller s d account × HasGrain s.tables n × LacksEntry Denied s.tables (node.User n account.num) r))

-- the caller shows a login; a bearer's token; one of the two; a run's token
abbrev pub ByLogin : Caller → Type 0
ByLogin (caller.Login d) = Unit {0}
ByLogin _ = ⊥

abbrev pub ByBearer : Caller → Type 0
ByBearer (caller.Bearer d) = Unit {0}
ByBearer _ = ⊥

abbrev pub ByEither : Caller → Type 0
ByEither (caller.Either d) = Unit {0}
ByEither _ = ⊥

abbrev pub ByRun : Caller → Type 0
ByRun (caller.Run d) = Unit {0}
ByRun _ = ⊥
