-- Why an account has access to a grain, in the words that people know.
use Rattle.std.specs.Prelude.{◌≡◌, ◌↔◌, ◌⊎◌, ℕ, zero, suc, true, List, Option, Some, None, Contains, map, slice_get}
use Rattle.std.specs.List.{AllZip}
use Rattle.std.specs.List.Sorted.{IsStrictlyIncreasing}
use Rattle.perm_roles.specs.PermSet.{Has}
use Rattle.perm_roles.specs.declared.roles.Base.TheVariants as base
use Rattle.share_graph.specs.Derivation.{Holds}
use Rattle.share_graph.specs.Rows.{IsAccount}
use Rattle.share_graph.specs.declared.facts.Fact.TheVariants.{Open, Perm}
use Rattle.share_graph.specs.declared.facts.Node.TheVariants as node
use Rattle.share_graph.specs.declared.grants.Giver.TheVariants as giver
use Rattle.report_desk.specs.declared.passing.GivenAs.TheVariants as shown_as
use Rattle.report_desk.specs.declared.passing.GivenBy.TheVariants as shown_by
use Rattle.report_desk.specs.Lines.{IsLine}
use Rattle.report_desk.specs.Terms.{Account, AccountId, App, Assignment, Base, Explains, Fact, Giver, GivenAs, GivenBy, GrainId, Grant, GrantId, Held, IsAppOf, IsGrant, IsIn, Passing, ProofStep, ReasonStep, Role, Tables}

-- whom a grant was given by
abbrev pub IsGivenBy : Tables → Giver → GivenBy → Type 0
IsGivenBy t (giver.Account a) shown = (account : Account) × IsAccount t a account × (shown ≡ shown_by.Account account.handle)
IsGivenBy t (giver.Grant g) shown = shown ≡ shown_by.Grant g
IsGivenBy t (giver.Site a tag item) shown = shown ≡ shown_by.Site

-- what an assignment on the grain starts from
abbrev pub IsGivenAs : Tables → GrainId → Base → GivenAs → Type 0
IsGivenAs t n base.NoRole shown = shown ≡ shown_as.NoRole
IsGivenAs t n base.AllAccess shown = shown ≡ shown_as.AllAccess
IsGivenAs t n (base.Role r) shown =
    (app : App) × IsAppOf t n app × ((role : Role) × (slice_get app.manifest.roles r ≡ Some role) × (shown ≡ shown_as.Role role.title))

-- the assignment adds or removes a permission
abbrev pub ChangesBase : Assignment → Type 0
ChangesBase assignment = (p : ℕ) × (Has assignment.add p ⊎ Has assignment.remove p)

-- The grant, as it is shown.
pub record IsPassing (t : Tables) (g : GrantId) (shown : Passing) : Type 0 where
  pub grant : Grant
  pub is_row : IsGrant t g grant
  pub num : shown.grant ≡ g
  pub by : IsGivenBy t grant.giver shown.by
  pub target : shown.target ≡ grant.target
  pub base : IsGivenAs t grant.grain grant.assignment.base shown.base
  pub changed : shown.changed ≡ true ↔ ChangesBase grant.assignment

-- the grant by which a step follows, if it does by one
abbrev pub IsPassed : Tables → Option GrantId → Option Passing → Type 0
IsPassed t None shown = shown ≡ None
IsPassed t (Some g) shown = (passing : Passing) × (shown ≡ Some passing) × IsPassing t g passing

-- The step of a proof, as it is shown: a line of its one fact.
pub record IsShownStep (t : Tables) (step : ProofStep) (shown : ReasonStep) : Type 0 where
  pub held : Held
  pub one : (fact : Fact) → IsIn held fact ↔ fact ≡ step.fact
  pub line : IsLine t step.node held shown.line
  pub passed : IsPassed t step.grant shown.passing
  pub from : shown.from ≡ step.from

-- the reason is an explanation of the fact, as it is shown
abbrev pub IsReason : Tables → GrainId → AccountId → Fact → List ReasonStep → Type 0
IsReason t n a fact reason = (steps : List ProofStep) × Explains t steps (node.User n a) fact × AllZip (IsShownStep t) steps reason

-- entry, and then permissions by position
abbrev pub fact_number : Fact → ℕ
fact_number Open = zero
fact_number (Perm p) = suc p

-- WHY AN ACCOUNT HAS ACCESS to a grain: an explanation of each fact that it holds there, in their order.
pub record AreReasons (t : Tables) (n : GrainId) (a : AccountId) (reasons : List (List ReasonStep)) : Type 0 where
  pub facts : List Fact
  pub exact : (fact : Fact) → Contains facts fact ↔ Holds t (node.User n a) fact
  pub ascend : IsStrictlyIncreasing (map fact_number facts)
  pub each : AllZip (IsReason t n a) facts reasons
