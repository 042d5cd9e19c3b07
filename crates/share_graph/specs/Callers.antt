-- Who is behind a secret, and the first test that lets it through: these tests are the same for a key and for a command. What is
-- answered to a denial is a parameter.
use Rattle.std.specs.Prelude.{◌≡◌, ◌⊎◌, Some, true}
use Rattle.host_base.specs.declared.digest.Digest.{Digest}
use Rattle.host_base.specs.declared.verdict.Denial.{Denial}
use Rattle.host_base.specs.declared.verdict.Denial.TheVariants.{UnknownKey, AccountDisabled, GrainTrashed, GrainStopped}
use Rattle.share_graph.specs.declared.facts.Fact.TheVariants.{Open}
use Rattle.share_graph.specs.declared.facts.Node.{Node}
use Rattle.share_graph.specs.declared.facts.Node.TheVariants as node
use Rattle.share_graph.specs.declared.grants.Grant.{Grant}
use Rattle.share_graph.specs.declared.rows.Account.{Account}
use Rattle.share_graph.specs.declared.sessions.Run.{Run}
use Rattle.share_graph.specs.declared.state.State.{State}
use Rattle.share_graph.specs.declared.state.Tables.{Tables}
use Rattle.share_graph.specs.Derivation.{Holds}
use Rattle.share_graph.specs.Forms.{when◌then◌else◌, unless◌then◌else◌, must◌or◌then◌, some◌of◌or◌then◌}
use Rattle.share_graph.specs.Keys.{IsOneOf, HasLogin, HasRunToken, IsBearerOf}
use Rattle.share_graph.specs.Missing.{IsMissing}
use Rattle.share_graph.specs.Rows.{IsKept}

-- the answer that a step is missing for entry at the node, the first one
abbrev pub LacksEntry : {A : Type 0} → (Denial → A) → Tables → Node → A → Type 0
LacksEntry deny t at a = (reason : Denial) × (a ≡ deny reason) × IsMissing t at (Some reason)

-- the node holds entry, and the rest
abbrev pub entry : {A : Type 0} → (Denial → A) → Tables → Node → (A → Type 0) → A → Type 0
entry deny t at Rest = must Holds t at Open or LacksEntry deny t at then Rest

-- the account that has the login, and is enabled
abbrev pub by_login : {A : Type 0} → (Denial → A) → State → Digest → (Account → A → Type 0) → A → Type 0
by_login deny s d Rest =
    some HasLogin d of s.tables.accounts or deny UnknownKey then λ account.
    unless account.enabled ≡ true then deny (AccountDisabled account.num) else
    Rest account

-- the grant whose token its bearer shows, and which holds entry
abbrev pub by_bearer : {A : Type 0} → (Denial → A) → State → Digest → (Grant → A → Type 0) → A → Type 0
by_bearer deny s d Rest =
    some IsBearerOf d of s.tables.grants or deny UnknownKey then λ grant.
    entry deny s.tables (node.Grant grant.num) (Rest grant)

-- the run that has the token, whose grain isn't in the trash, and which isn't stopped
abbrev pub by_run : {A : Type 0} → (Denial → A) → State → Digest → (Run → A → Type 0) → A → Type 0
by_run deny s d Rest =
    some HasRunToken d of s.runs or deny UnknownKey then λ run.
    unless IsKept s.tables run.grain then deny (GrainTrashed run.grain) else
    when run.stopped ≡ true then deny (GrainStopped run.grain) else
    Rest run

-- some account has the login
abbrev pub IsSomeLogin : State → Digest → Type 0
IsSomeLogin s d = (account : Account) × IsOneOf s.tables.accounts (HasLogin d) account

-- an account by its login where there is one, else whoever bears the token
abbrev pub by_either : {A : Type 0} → (Denial → A) → State → Digest → (Account → A → Type 0) → (Grant → A → Type 0) → A → Type 0
by_either deny s d AsAccount AsBearer a =
    (IsSomeLogin s d × by_login deny s d AsAccount a) ⊎ ((IsSomeLogin s d → ⊥) × by_bearer deny s d AsBearer a)
