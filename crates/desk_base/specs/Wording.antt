-- The words of the table of commands.
use Rattle.std.specs.Prelude.{◌≡◌, ◌⊎◌, ℕ, List, Option, true}
use Rattle.desk_base.specs.Terms.{Account, AccountId, App, AppId, Assignment, Caller, Digest, entry, found◌or◌then◌}
use Rattle.desk_base.specs.Terms.{Grain, GrainId, Grant, GrantId, IsGrain, IsGrant, IsNoneOf, Made, must◌or◌then◌}
use Rattle.desk_base.specs.Terms.{Need, Node, none, State, unless◌then◌else◌}
use Rattle.share_graph.specs.declared.desk.Caller.TheVariants as caller
use Rattle.share_graph.specs.declared.fault.Kind.TheVariants as kind
use Rattle.share_graph.specs.declared.refusal.Refusal.TheVariants.{NotAdmin, PastMoment, Unknown}
use Rattle.share_graph.specs.Callers as callers
use Rattle.share_graph.specs.Callers.{by_login}
use Rattle.share_graph.specs.Expiry.{Lasts}
use Rattle.share_graph.specs.Keys.{IsFirstOf}
use Rattle.share_graph.specs.Rows.{IsAccount, IsApp}
use Rattle.desk_base.specs.Needs.{AreGood, HasBadNeed}
use Rattle.desk_base.specs.Roles.{MayGiveOn, HasRoleFaultOn}
use Rattle.desk_base.specs.Steps.{Step, Refuses, Keeps, refusing, denies}

-- the digest of the secret by which a caller is known
abbrev pub secret_of : Caller → Digest
secret_of (caller.Login d) = d
secret_of (caller.Bearer d) = d
secret_of (caller.Run d) = d
secret_of (caller.Either d) = d

-- the caller's account: Denied(UnknownKey), Denied(AccountDisabled)
abbrev pub by_account : State → Caller → (Account → Step → Type 0) → Step → Type 0
by_account s who Rest = by_login denies s (secret_of who) Rest

-- the same, and NotAdmin where it is none
abbrev pub by_admin : State → Caller → (Account → Step → Type 0) → Step → Type 0
by_admin s who Rest =
    by_account s who λ account.
    unless account.admin ≡ true then (Refuses NotAdmin) else
    Rest account

-- the grant whose token the caller bears: Denied(UnknownKey), and Denied of the first step that is missing for its entry
abbrev pub by_bearer : State → Caller → (Grant → Step → Type 0) → Step → Type 0
by_bearer s who Rest = callers.by_bearer denies s (secret_of who) Rest

-- Unknown, else the row of that number
abbrev pub known_account : State → AccountId → (Account → Step → Type 0) → Step → Type 0
known_account s a Rest = found (IsAccount s.tables a) or (none (IsAccount s.tables a) (Refuses (Unknown kind.Account a.0))) then Rest

abbrev pub known_app : State → AppId → (App → Step → Type 0) → Step → Type 0
known_app s p Rest = found (IsApp s.tables p) or (none (IsApp s.tables p) (Refuses (Unknown kind.App p.0))) then Rest

abbrev pub known_grain : State → GrainId → (Grain → Step → Type 0) → Step → Type 0
known_grain s n Rest = found (IsGrain s.tables n) or (none (IsGrain s.tables n) (Refuses (Unknown kind.Grain n.0))) then Rest

abbrev pub known_grant : State → GrantId → (Grant → Step → Type 0) → Step → Type 0
known_grant s g Rest = found (IsGrant s.tables g) or (none (IsGrant s.tables g) (Refuses (Unknown kind.Grant g.0))) then Rest

-- access: Denied of the first step that is missing for the node's entry
abbrev pub access◌of◌then◌ : Node → State → (Step → Type 0) → Step → Type 0
access◌of◌then◌ at s Rest = entry denies s.tables at Rest

infixr 10 access◌of◌then◌
-- role: BadRole, ObsoleteRole, LongSet, for the assignment and the grain's application
abbrev pub role◌on◌of◌then◌ : Assignment → GrainId → State → (Step → Type 0) → Step → Type 0
role◌on◌of◌then◌ a n s Rest = must (MayGiveOn s.tables n a) or refusing (HasRoleFaultOn s.tables n a) then Rest

infixr 10 role◌on◌of◌then◌
-- needs: BadNeed(i) for the first index i at or above 8, or whose need can't be had
abbrev pub needs◌of◌then◌ : List Need → State → (Step → Type 0) → Step → Type 0
needs◌of◌then◌ wanted s Rest = must (AreGood s.tables wanted) or refusing (HasBadNeed s.tables wanted) then Rest

infixr 10 needs◌of◌then◌
-- lasts: PastMoment of the last moment, where the expiry isn't above it
abbrev pub lasts◌of◌then◌ : Option ℕ → State → (Step → Type 0) → Step → Type 0
lasts◌of◌then◌ expires s Rest = unless Lasts s.tables.moment expires then (Refuses (PastMoment s.tables.moment)) else Rest

infixr 10 lasts◌of◌then◌
-- same where some row of the list is so, and the reply shows the first one; else the rest
abbrev pub keeps◌of◌showing◌else◌ : {X : Type 0} → (X → Type 0) → List X → (X → Made) → (Step → Type 0) → Step → Type 0
keeps◌of◌showing◌else◌ {X} P rows shown Rest step = ((x : X) × (step ≡ Keeps (shown x)) × IsFirstOf rows P x) ⊎ (IsNoneOf rows P × Rest step)

infixr 10 keeps◌of◌showing◌else◌
