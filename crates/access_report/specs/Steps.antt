-- Steps of an explanation, each of which rests on earlier ones.
use Rattle.std.specs.Prelude.{◌≡◌, ◌<◌, ℕ, List, Option, Some, None, Contains, slice_get}
use Rattle.host_base.specs.declared.ids.GrainId.{GrainId}
use Rattle.host_base.specs.declared.ids.GrantId.{GrantId}
use Rattle.share_graph.specs.declared.facts.Fact.{Fact}
use Rattle.share_graph.specs.declared.facts.Node.{Node}
use Rattle.share_graph.specs.declared.facts.Node.TheVariants as node
use Rattle.share_graph.specs.declared.grants.Grant.{Grant}
use Rattle.share_graph.specs.declared.rows.App.{App}
use Rattle.share_graph.specs.declared.rows.Grain.{Grain}
use Rattle.share_graph.specs.declared.state.Tables.{Tables}
use Rattle.share_graph.specs.Derivation.{Owns, IsFactOf, Follows}
use Rattle.access_report.specs.declared.step.Step.{Step}

-- The step at a place, which stands before another place, says that the node holds the fact.
pub record SaysBefore (steps : List Step) (before place : ℕ) (at : Node) (fact : Fact) : Type 0 where
  pub earlier : place < before
  pub step : Step
  pub there : slice_get steps place ≡ Some step
  pub of_node : step.node ≡ at
  pub of_fact : step.fact ≡ fact

-- a step before the place, at one of the places of the list, says that the node holds the fact
abbrev pub Cites : List Step → ℕ → List ℕ → Node → Fact → Type 0
Cites steps before from at fact = (place : ℕ) × Contains from place × SaysBefore steps before place at fact

-- The node is that of a grain's owner, and the fact is one that the owner holds there.
pub record IsOwned (t : Tables) (at : Node) (fact : Fact) : Type 0 where
  pub num : GrainId
  pub grain : Grain
  pub app : App
  pub owns : Owns t num grain app
  pub is_fact : IsFactOf app fact
  pub of_owner : node.User num grain.owner ≡ at

-- by what the relation holds, the fact is an owner's, or it follows by the grant
abbrev pub IsBy : Tables → (Node → Fact → Type 0) → Option GrantId → Node → Fact → Type 0
IsBy t R None at fact = IsOwned t at fact
IsBy t R (Some g) at fact = (grant : Grant) × Follows t R g grant at fact

-- by what the relation holds, the step is one of the rules of sharing
abbrev pub IsLawful : Tables → (Node → Fact → Type 0) → Step → Type 0
IsLawful t R step = IsBy t R step.grant step.node step.fact

-- SOUND STEPS. Each is one of the rules of sharing, by what earlier ones say at the places that it names.
abbrev pub AreSound : Tables → List Step → Type 0
AreSound t steps = (i : ℕ) (step : Step) → slice_get steps i ≡ Some step → IsLawful t (Cites steps i step.from) step
