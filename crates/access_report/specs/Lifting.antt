-- An aid for the proof: what holds without a grant, at the nodes that it reaches.
use Rattle.std.specs.Prelude.{◌⊎◌, List, Contains}
use Rattle.host_base.specs.declared.ids.GrantId.{GrantId}
use Rattle.share_graph.specs.declared.facts.Fact.{Fact}
use Rattle.share_graph.specs.declared.facts.Node.{Node}
use Rattle.share_graph.specs.declared.state.Tables.{Tables}
use Rattle.share_graph.specs.Derivation.{HoldsWithout}
use Rattle.least_access.specs.Solved.{Table, HeldAt}
use Rattle.access_report.specs.Steps.{IsOwned}
use Rattle.access_report.specs.Turns.{HasMore}

-- what is known of a node before the others are asked: at a node of the region what it holds as an owner, and else what it holds
abbrev pub IsKnown : Tables → Table → List Node → Node → Fact → Type 0
IsKnown t solved region at fact = (Contains region at × IsOwned t at fact) ⊎ ((Contains region at → ⊥) × HeldAt solved at fact)

-- A table with what is known of a node beside what it had.
pub record IsFilled (t : Tables) (solved : Table) (region : List Node) (node : Node) (old new : Table) : Type 0 where
  pub more : HasMore old new
  pub known : (fact : Fact) → IsKnown t solved region node fact → HeldAt new node fact
  pub only : (at : Node) (fact : Fact) → HeldAt new at fact → HeldAt old at fact ⊎ IsKnown t solved region at fact

-- The same for each of the nodes.
pub record AreFilled (t : Tables) (solved : Table) (region nodes : List Node) (old new : Table) : Type 0 where
  pub more : HasMore old new
  pub known : (at : Node) (fact : Fact) → Contains nodes at → IsKnown t solved region at fact → HeldAt new at fact
  pub only : (at : Node) (fact : Fact) → HeldAt new at fact → HeldAt old at fact ⊎ IsKnown t solved region at fact

-- all that the table has holds without the grant
abbrev pub HoldAll : Tables → GrantId → Table → Type 0
HoldAll t g table = (at : Node) (fact : Fact) → HeldAt table at fact → HoldsWithout t g at fact
