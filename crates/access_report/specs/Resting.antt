-- An aid for the proof: the nodes and grants on which what a node holds can rest.
use Rattle.std.specs.Prelude.{◌⊎◌, ◌↔◌, List, Contains}
use Rattle.std.specs.List.{cons_option, filter_map}
use Rattle.host_base.specs.declared.ids.GrantId.{GrantId}
use Rattle.share_graph.specs.declared.facts.Node.{Node}
use Rattle.share_graph.specs.declared.grants.Grant.{Grant}
use Rattle.share_graph.specs.declared.state.Tables.{Tables}
use Rattle.share_graph.specs.Nodes.{node_of, source_of}
use Rattle.share_graph.specs.Region.{Feeds}
use Rattle.share_graph.specs.Rows.{IsGrant}
use Rattle.least_access.specs.Solved.{Table}
use Rattle.region_access.specs.Reaching.{Extends, IsVisited}
use Rattle.region_work.specs.Owed.{holder_of}

-- the nodes on which a grant rests: its source, and those that its needs name
abbrev pub feeders : Grant → List Node
feeders grant = cons_option (source_of grant) (filter_map holder_of grant.needs)

-- the nodes, and those on which the grants rest
abbrev pub AreFedBy : Tables → List Node → List GrantId → List Node → Type 0
AreFedBy t nodes grants wider = (at : Node) → Contains wider at ↔ (Contains nodes at ⊎ ((g : GrantId) × (grant : Grant) × Contains grants g × IsGrant t g grant × Contains (feeders grant) at))

-- More nodes were visited, and no others, after those that were before.
pub record AreVisited (more old new : List Node) (places : Table) : Type 0 where
  pub visited : IsVisited new places
  pub extends : Extends old new
  pub all : (at : Node) → Contains more at → Contains new at
  pub only : (at : Node) → Contains new at → Contains old at ⊎ Contains more at

-- The node is among the nodes, the grants are those that go to them, and what these rest on is among the nodes.
pub record IsRestOf (t : Tables) (node : Node) (nodes : List Node) (grants : List GrantId) : Type 0 where
  pub goal : Contains nodes node
  pub rows : (g : GrantId) → Contains grants g → (grant : Grant) × IsGrant t g grant × Contains nodes (node_of g grant)
  pub grants_all : (g : GrantId) (grant : Grant) → IsGrant t g grant → Contains nodes (node_of g grant) → Contains grants g
  pub fed : (g : GrantId) (grant : Grant) (at : Node) → Contains grants g → IsGrant t g grant → Feeds at grant → Contains nodes at
