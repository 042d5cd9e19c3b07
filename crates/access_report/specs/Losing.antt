-- An aid for the proof: what nodes hold without a grant, and what is gone by that.
use Rattle.std.specs.Prelude.{◌≡◌, ◌⊎◌, ◌↔◌, List, Option, Some, Contains, IsSome}
use Rattle.host_base.specs.declared.ids.GrantId.{GrantId}
use Rattle.share_graph.specs.declared.facts.Fact.{Fact}
use Rattle.share_graph.specs.declared.facts.Node.{Node}
use Rattle.share_graph.specs.declared.facts.Node.TheVariants as node
use Rattle.share_graph.specs.declared.grants.Grant.{Grant}
use Rattle.share_graph.specs.declared.state.Tables.{Tables}
use Rattle.share_graph.specs.Derivation.{HoldsWithout}
use Rattle.share_graph.specs.Region.{Feeds}
use Rattle.share_graph.specs.Rows.{IsGrant}
use Rattle.least_access.specs.declared.held.Held.{Held}
use Rattle.least_access.specs.Held.{IsIn}
use Rattle.least_access.specs.Solved.{Table, held_at, HeldAt}
use Rattle.access_report.specs.declared.loss.Loss.{Loss}
use Rattle.access_report.specs.Lifting.{IsKnown, HoldAll}
use Rattle.access_report.specs.Steps.{IsOwned}
use Rattle.access_report.specs.Turns.{IsClosedBy}

-- The table has what the region's nodes hold as owners, what the others hold on which the grants rest, and what follows by the grants;
-- and no more, as far as a grant that isn't among them is concerned.
pub record IsSettled (t : Tables) (solved : Table) (region : List Node) (grants : List GrantId) (table : Table) : Type 0 where
  pub owned : (at : Node) (fact : Fact) → Contains region at → IsOwned t at fact → HeldAt table at fact
  pub outer : (h : GrantId) (grant : Grant) (at : Node) (fact : Fact) → Contains grants h → IsGrant t h grant → Feeds at grant → (Contains region at → ⊥) → HeldAt solved at fact → HeldAt table at fact
  pub closed : IsClosedBy t grants table table
  pub without : (g : GrantId) → (Contains grants g → ⊥) → ((at : Node) (fact : Fact) → IsKnown t solved region at fact → HoldsWithout t g at fact) → HoldAll t g table

-- the first table has the fact at the node, and the second doesn't
abbrev pub IsGone : Table → Table → Node → Fact → Type 0
IsGone solved table at fact = HeldAt solved at fact × (HeldAt table at fact → ⊥)

-- the node by whose place in the order of nodes another one stands in the report: the numbers of its grain and its account change places
abbrev pub turned : Node → Node
turned (node.User n a) = node.User (record { 0 = a.0 }) (record { 0 = n.0 })
turned (node.Grant g) = node.Grant g

-- Nodes under which others stand, each with exactly what is gone there, and something is.
pub record AreLost (solved table : Table) (nodes : List Node) (lost : Table) : Type 0 where
  pub only : (at : Node) (held : Held) → held_at lost at ≡ Some held → (fact : Fact) → IsIn held fact ↔ IsGone solved table (turned at) fact
  pub something : (at : Node) (held : Held) → held_at lost at ≡ Some held → (fact : Fact) × IsIn held fact
  pub inside : (at : Node) (held : Held) → held_at lost at ≡ Some held → Contains nodes (turned at)
  pub all : (at : Node) (fact : Fact) → Contains nodes at → IsGone solved table at fact → IsSome (held_at lost (turned at))

-- what is made of such a node
abbrev pub loss_of : Node × Held → Loss
loss_of (at, held) = record { node = turned at; entry = held.entry; perms = held.perms }

-- what is gone at the node is added under the one that it stands by, if anything is
pub record AddsLost (solved table : Table) (node : Node) (old new : Table) : Type 0 where
  pub only : (at : Node) (held : Held) → held_at new at ≡ Some held
      → (held_at old at ≡ Some held) ⊎ ((turned node ≡ at) × ((fact : Fact) → IsIn held fact ↔ IsGone solved table node fact) × ((fact : Fact) × IsIn held fact))
  pub keeps : (at : Node) → IsSome (held_at old at) → IsSome (held_at new at)
  pub there : (fact : Fact) → IsGone solved table node fact → IsSome (held_at new (turned node))

abbrev pub made_of : Node × Held → Option Loss
made_of e = Some (loss_of e)
