-- An aid for the proof: what has to be there so that a step can be shown, and the facts that are held.
use Rattle.std.specs.Prelude.{◌≡◌, ◌<◌, ◌↔◌, ℕ, List, Some, Contains, map, slice_get}
use Rattle.std.specs.List.Sorted.{IsStrictlyIncreasing}
use Rattle.perm_roles.specs.Roles.{IsInRoles}
use Rattle.share_graph.specs.Known.{HasGrant, KnowsNode}
use Rattle.share_graph.specs.declared.facts.Fact.TheVariants.{Open, Perm}
use Rattle.report_desk.specs.Reasons.{fact_number}
use Rattle.report_desk.specs.Terms.{App, Base, Fact, GrainId, GrantId, Held, IsAppOf, IsIn, ProofStep, Role, Tables}

-- the fact is entry, or at a position that a set can have
abbrev pub IsPlaced : Fact → Type 0
IsPlaced Open = Unit {0}
IsPlaced (Perm p) = p < 64

-- What the step names is there.
pub record IsShowable (t : Tables) (step : ProofStep) : Type 0 where
  pub node : KnowsNode t step.node
  pub fact : IsPlaced step.fact
  pub grant : (g : GrantId) → step.grant ≡ Some g → HasGrant t g

-- a role that the base names is in the list of the grain's application
abbrev pub HasRoleOf : Tables → GrainId → Base → Type 0
HasRoleOf t n base = (app : App) × IsAppOf t n app × IsInRoles app.manifest.roles base

-- the title of the role at that place of the list
abbrev pub IsTitleOf : Tables → GrainId → ℕ → List ℕ → Type 0
IsTitleOf t n r title = (app : App) × IsAppOf t n app × ((role : Role) × (slice_get app.manifest.roles r ≡ Some role) × (title ≡ role.title))

-- The facts that are held: entry, and then permissions by position.
pub record AreFactsOf (held : Held) (facts : List Fact) : Type 0 where
  pub exact : (fact : Fact) → Contains facts fact ↔ IsIn held fact
  pub ascend : IsStrictlyIncreasing (map fact_number facts)
