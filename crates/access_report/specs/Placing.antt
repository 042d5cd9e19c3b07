-- An aid for the proof: the places of steps, by what they say.
use Rattle.std.specs.Prelude.{◌≡◌, ℕ, List, Option, Some, None, IsSome, length}
use Rattle.std.specs.BTreeMap.{is_at}
use Rattle.std.specs.Map.{lookup}
use Rattle.std.specs.Option.{option_cmp}
use Rattle.std.specs.Ordering.{nat_cmp, ordering_then}
use Rattle.std.specs.declared.cmp.Ordering.{Ordering}
use Rattle.share_graph.specs.contracts.facts.NodeOrd.TheImpl as node_order
use Rattle.share_graph.specs.declared.facts.Fact.{Fact}
use Rattle.share_graph.specs.declared.facts.Fact.TheVariants.{Open, Perm}
use Rattle.share_graph.specs.declared.facts.Node.{Node}
use Rattle.access_report.specs.declared.step.Step.{Step}
use Rattle.access_report.specs.Steps.{SaysBefore}
use Rattle.access_report.specs.Telling.{IsSaid}

-- the position of a permission, and none for entry
abbrev pub position : Fact → Option ℕ
position Open = None
position (Perm p) = Some p

-- nodes with positions, by the nodes and then by the positions
abbrev pub key_cmp : Node × Option ℕ → Node × Option ℕ → Ordering
key_cmp a b = ordering_then (node_order.ghosts.cmp a.0 b.0) (option_cmp nat_cmp a.1 b.1)

-- the place that is kept for the fact at the node
abbrev pub place_in : List ((Node × Option ℕ) × ℕ) → Node → Fact → Option ℕ
place_in entries at fact = lookup (is_at (key_cmp (at, position fact))) entries

-- Each place that is kept is that of a step which says so, and there is one for all that is said.
pub record ArePlaced (steps : List Step) (entries : List ((Node × Option ℕ) × ℕ)) : Type 0 where
  pub each : (at : Node) (fact : Fact) (place : ℕ) → place_in entries at fact ≡ Some place → SaysBefore steps (length steps) place at fact
  pub all : (at : Node) (fact : Fact) → IsSaid steps at fact → IsSome (place_in entries at fact)
