-- The region, node by node.
use Rattle.std.specs.Prelude.{◌≡◌, ◌≢◌, ◌⊎◌, ◌↔◌, ◌<◌, ◌≤◌, ℕ, List, Contains, AllPairs, length, slice_index_or}
use Rattle.host_base.specs.declared.ids.GrantId.{GrantId}
use Rattle.share_graph.specs.declared.facts.Node.{Node}
use Rattle.share_graph.specs.declared.grants.Grant.{Grant}
use Rattle.share_graph.specs.declared.state.Tables.{Tables}
use Rattle.share_graph.specs.Nodes.{node_of}
use Rattle.share_graph.specs.Region.{Reached}
use Rattle.share_graph.specs.Rows.{IsGrant}
use Rattle.least_access.specs.Solved.{Table}
use Rattle.region_work.specs.Emptying.{IsEmptyAt}

-- each of the nodes once, and a place for each
pub record IsVisited (nodes : List Node) (places : Table) : Type 0 where
  pub empty : IsEmptyAt nodes places
  pub once : AllPairs (λ (a : Node) (b : Node). a ≢ b) nodes

-- the second list begins with the first
pub record Extends (old new : List Node) : Type 0 where
  pub longer : length old ≤ length new
  pub same : (k : ℕ) (d : Node) → k < length old → slice_index_or new k d ≡ slice_index_or old k d

-- the list has the nodes of the grants too, and no others more
pub record ReachesFrom (t : Tables) (grants : List GrantId) (old new : List Node) : Type 0 where
  pub extends : Extends old new
  pub all : (g : GrantId) (grant : Grant) → Contains grants g → IsGrant t g grant → Contains new (node_of g grant)
  pub only : (at : Node) → Contains new at → Contains old at ⊎ ((g : GrantId) × (grant : Grant) × Contains grants g × IsGrant t g grant × (at ≡ node_of g grant))

-- THE REGION: each node once that the seeds reach along shares and needs
pub record IsRegionOf (t : Tables) (seeds nodes : List Node) : Type 0 where
  pub exact : (at : Node) → Contains nodes at ↔ Reached t (Contains seeds) at
  pub once : AllPairs (λ (a : Node) (b : Node). a ≢ b) nodes
