-- Why a node holds a fact.
use Rattle.std.specs.Prelude.{◌≡◌, ◌+◌, ◌<◌, ℕ, List, Some, Contains, length, slice_get}
use Rattle.share_graph.specs.declared.facts.Fact.{Fact}
use Rattle.share_graph.specs.declared.facts.Node.{Node}
use Rattle.share_graph.specs.declared.state.Tables.{Tables}
use Rattle.access_report.specs.declared.step.Step.{Step}
use Rattle.access_report.specs.Steps.{AreSound}

-- the last step says that the node holds the fact
pub record Concludes (steps : List Step) (at : Node) (fact : Fact) : Type 0 where
  pub place : ℕ
  pub step : Step
  pub there : slice_get steps place ≡ Some step
  pub is_last : place + 1 ≡ length steps
  pub of_node : step.node ≡ at
  pub of_fact : step.fact ≡ fact

-- each step but the last one is named by a later one
abbrev pub EachIsNamed : List Step → Type 0
EachIsNamed steps = (k : ℕ) → k + 1 < length steps → (i : ℕ) × (step : Step) × (k < i) × (slice_get steps i ≡ Some step) × Contains step.from k

-- AN EXPLANATION: sound steps, of which the last one says that the node holds the fact, and each other one is named by a later one.
pub record Explains (t : Tables) (steps : List Step) (at : Node) (fact : Fact) : Type 0 where
  pub sound : AreSound t steps
  pub concludes : Concludes steps at fact
  pub needed : EachIsNamed steps

-- an aid for the proof: steps that are sound where those that they were taken from are, and of which the last one says it
pub record Concluding (steps : List Step) (at : Node) (fact : Fact) (kept : List Step) : Type 0 where
  pub sound : (t : Tables) → AreSound t steps → AreSound t kept
  pub concludes : Concludes kept at fact
  pub needed : EachIsNamed kept
