-- Events after which every node holds what it held, seen from a few rows.
use Rattle.std.specs.Prelude.{◌≡◌, ◌≢◌, [], ◌∷◌, List, Contains, Some}
use Rattle.host_base.specs.declared.ids.GrantId.{GrantId}
use Rattle.share_graph.specs.declared.facts.Fact.{Fact}
use Rattle.share_graph.specs.declared.facts.Node.{Node}
use Rattle.share_graph.specs.declared.grants.Grant.{Grant}
use Rattle.share_graph.specs.declared.grants.Need.{Need}
use Rattle.share_graph.specs.declared.state.Tables.{Tables}
use Rattle.share_graph.specs.Derivation.{Asks, Follows}
use Rattle.share_graph.specs.Nodes.{node_of, source_of, Gives}
use Rattle.share_graph.specs.Rows.{IsGrant}
use Rattle.least_access.specs.Solved.{Table, HeldAt}
use Rattle.region_access.specs.Reaching.{IsRegionOf}

-- a new grant adds nothing: of what its source holds, its node holds all that the grant gives
pub record AddsNothing (t : Tables) (table : Table) (grant : Grant) : Type 0 where
  pub from : Node
  pub source : source_of grant ≡ Some from
  pub held : (fact : Fact) → HeldAt table from fact → Gives t grant fact → HeldAt table (node_of grant.num grant) fact

-- The grant is fed from outside of these nodes alone: neither its source nor a node that its needs name is one of them.
pub record IsFedOutside (nodes : List Node) (grant : Grant) : Type 0 where
  pub from : Node
  pub source : source_of grant ≡ Some from
  pub out : Contains nodes from → ⊥
  pub needs : (q : Need) → Contains grant.needs q → (at : Node) (asked : Fact) → Asks q at asked → Contains nodes at → ⊥

-- Another grant passes the fact on at the node, from outside of these nodes alone.
pub record IsGivenOtherwise (t : Tables) (table : Table) (nodes : List Node) (g : GrantId) (at : Node) (fact : Fact) : Type 0 where
  pub other : GrantId
  pub apart : other ≢ g
  pub grant : Grant
  pub is_row : IsGrant t other grant
  pub there : node_of other grant ≡ at
  pub follows : Follows t (HeldAt table) other grant (node_of other grant) fact
  pub fed : IsFedOutside nodes grant

-- Revoking the grant takes nothing: whatever it passes on, another grant gives its node from outside of what hangs on it.
pub record TakesNothing (t : Tables) (table : Table) (g : GrantId) : Type 0 where
  pub grant : Grant
  pub from : Node
  pub is_row : IsGrant t g grant
  pub source : source_of grant ≡ Some from
  pub nodes : List Node
  pub region : IsRegionOf t (node_of g grant ∷ []) nodes
  pub given : (fact : Fact) → Follows t (HeldAt table) g grant (node_of g grant) fact
      → IsGivenOtherwise t table nodes g (node_of g grant) fact
