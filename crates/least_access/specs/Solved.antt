-- What a table of nodes holds, and when it is the solution of the rules of sharing.
use Rattle.std.specs.Prelude.{◌↔◌, List, Option, IsSomeAnd}
use Rattle.std.specs.BTreeMap.{is_at}
use Rattle.std.specs.Map.{lookup}
use Rattle.share_graph.specs.contracts.facts.NodeOrd.TheImpl as node_order
use Rattle.share_graph.specs.declared.facts.Fact.{Fact}
use Rattle.share_graph.specs.declared.facts.Node.{Node}
use Rattle.share_graph.specs.declared.state.Tables.{Tables}
use Rattle.share_graph.specs.Derivation.{Holds}
use Rattle.least_access.specs.declared.held.Held.{Held}
use Rattle.least_access.specs.Held.{IsIn}

-- a table: nodes, each with what it holds
abbrev pub Table : Type 0
Table = List (Node × Held)

-- what the table has at the node
abbrev pub held_at : Table → Node → Option Held
held_at table at = lookup (is_at (node_order.ghosts.cmp at)) table

-- the table has the fact at the node
abbrev pub HeldAt : Table → Node → Fact → Type 0
HeldAt table at fact = IsSomeAnd (held_at table at) (λ held. IsIn held fact)

-- THE SOLUTION. The table has exactly the facts that hold: those of which there is a derivation.
abbrev pub IsSolutionOf : Tables → Table → Type 0
IsSolutionOf t table = (at : Node) (fact : Fact) → HeldAt table at fact ↔ Holds t at fact
