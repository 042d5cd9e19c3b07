-- A table whose region was cleared, and the change that comes.
use Rattle.std.specs.Prelude.{◌≡◌, ◌↔◌, [], List, Contains, IsSome}
use Rattle.host_base.specs.declared.ids.GrantId.{GrantId}
use Rattle.share_graph.specs.declared.facts.Fact.{Fact}
use Rattle.share_graph.specs.declared.facts.Node.{Node}
use Rattle.share_graph.specs.declared.grants.Grant.{Grant}
use Rattle.share_graph.specs.declared.state.Tables.{Tables}
use Rattle.share_graph.specs.Coherent.{IsCoherent}
use Rattle.share_graph.specs.Nodes.{node_of}
use Rattle.share_graph.specs.Region.{Feeds, GivesOutside}
use Rattle.share_graph.specs.Rows.{IsGrant}
use Rattle.least_access.specs.Solved.{Table, held_at, HeldAt, IsSolutionOf}
use Rattle.region_work.specs.Work.{Work}

-- no share or need leads from the nodes to another one
abbrev pub LeadsNowhere : Tables → List Node → Type 0
LeadsNowhere t nodes = (from : Node) (g : GrantId) (grant : Grant) → IsGrant t g grant → Feeds from grant → Contains nodes from → Contains nodes (node_of g grant)

-- the list has exactly the grants that go to the nodes
abbrev pub HasGrants : Tables → List Node → List GrantId → Type 0
HasGrants t nodes grants = (g : GrantId) → Contains grants g ↔ ((grant : Grant) × IsGrant t g grant × Contains nodes (node_of g grant))

-- the second table is the first, but that the nodes hold nothing
pub record Clears (nodes : List Node) (old new : Table) : Type 0 where
  pub places : (at : Node) → Contains nodes at → IsSome (held_at new at)
  pub nothing : (at : Node) (fact : Fact) → Contains nodes at → HeldAt new at fact → ⊥
  pub others : (at : Node) → (Contains nodes at → ⊥) → held_at new at ≡ held_at old at

-- the change of the first tables to the second touches the nodes alone, and reaches no others
pub record Touches (nodes : List Node) (t u : Tables) : Type 0 where
  pub coherent : IsCoherent t
  pub closed : LeadsNowhere t nodes
  pub closed_after : LeadsNowhere u nodes
  pub there : GivesOutside (Contains nodes) t u
  pub back : GivesOutside (Contains nodes) u t

-- the table solved some tables that the change of the nodes makes the tables of, and was cleared there
pub record IsPrepared (u : Tables) (nodes : List Node) (table : Table) : Type 0 where
  pub tables : Tables
  pub start : Table
  pub solved : IsSolutionOf tables start
  pub clears : Clears nodes start table
  pub touches : Touches nodes tables u

-- THE TABLE IS TO GROW: it solved some tables, of which the tables after the change give all, and more at the starts alone.
-- The nodes, among which the starts are, have places, and no share or need leads from them to another one.
pub record IsToGrow (u : Tables) (starts nodes : List Node) (table : Table) : Type 0 where
  pub tables : Tables
  pub coherent : IsCoherent tables
  pub solved : IsSolutionOf tables table
  pub adds : GivesOutside (Contains []) tables u
  pub only : GivesOutside (Contains starts) u tables
  pub within : (at : Node) → Contains starts at → Contains nodes at
  pub places : (at : Node) → Contains nodes at → IsSome (held_at table at)
  pub closed : LeadsNowhere u nodes

-- nothing was found yet at the nodes
pub record IsFresh (nodes : List Node) (work : Work) : Type 0 where
  pub places : (at : Node) → IsSome (held_at work.found at) ↔ Contains nodes at
  pub nothing : (at : Node) (fact : Fact) → HeldAt work.found at fact → ⊥
  pub none : work.queue ≡ []
