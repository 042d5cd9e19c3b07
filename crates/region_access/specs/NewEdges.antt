-- The edges of a grant that is to be added, in each index.
use Rattle.std.specs.Prelude.{◌≡◌, ◌⊎◌, ◌↔◌, ◌∷◌, [], List, Option, Some, None, Contains}
use Rattle.host_base.specs.declared.ids.GrantId.{GrantId}
use Rattle.share_graph.specs.declared.facts.Node.{Node}
use Rattle.share_graph.specs.declared.grants.Grant.{Grant}
use Rattle.share_graph.specs.declared.state.Tables.{Tables}
use Rattle.share_graph.specs.Nodes.{node_of, source_of}
use Rattle.share_graph.specs.Region.{Feeds}
use Rattle.share_graph.specs.Rows.{IsGrant}
use Rattle.region_access.specs.declared.fed_grant.NewGrant.{NewGrant}
use Rattle.region_access.specs.declared.tie.Tie.{Tie}
use Rattle.region_access.specs.Adding.{IsNewIn, HasSameEdges, AddsEdges}
use Rattle.region_access.specs.Ties.{IsTied}

-- the tables have no grant of the new one's number
abbrev pub HasNoRow : Tables → Option NewGrant → Type 0
HasNoRow t None = Unit {0}
HasNoRow t (Some added) = (grant : Grant) → IsGrant t added.num grant → ⊥

-- the keys of the new grant, if there is one, have it beside what they had
abbrev pub HasNew : {K : Type 0} → (NewGrant → List K) → Option NewGrant → (K → List GrantId) → (K → List GrantId) → Type 0
HasNew keys None old new = HasSameEdges old new
HasNew keys (Some added) old new = IsNewIn added.num old × AddsEdges (Contains (keys added)) added.num old new

-- the nodes that feed the new grant, if there is one, feed it beside what they fed
abbrev pub HasFeeding : Option NewGrant → (Node → List GrantId) → (Node → List GrantId) → Type 0
HasFeeding = HasNew (λ added. added.feeding.items)

-- the new grant, if there is one, goes to its node beside those that went there
abbrev pub HasArrival : Option NewGrant → (Node → List GrantId) → (Node → List GrantId) → Type 0
HasArrival = HasNew (λ added. added.node ∷ [])

-- the ties on which the new grant hangs, if there is one, have it beside what they had
abbrev pub HasTies : Option NewGrant → (Tie → List GrantId) → (Tie → List GrantId) → Type 0
HasTies = HasNew (λ added. added.ties.items)

-- the two rows of a grant have the same source, needs and expiry, are on the same grain, and go to the same node
pub record IsAlike (g : GrantId) (a b : Grant) : Type 0 where
  pub source : source_of a ≡ source_of b
  pub needs : a.needs ≡ b.needs
  pub grain : a.grain ≡ b.grain
  pub node : node_of g a ≡ node_of g b
  pub expires : a.expires ≡ b.expires

-- the new grant is of the row: its nodes are those that feed it, its node is the one that it goes to, and its ties are what it
-- hangs on
pub record IsRowOf (added : NewGrant) (grant : Grant) : Type 0 where
  pub feeding : (at : Node) → Contains added.feeding.items at ↔ Feeds at grant
  pub node : added.node ≡ node_of added.num grant
  pub ties : (on : Tie) → Contains added.ties.items on ↔ IsTied on grant

abbrev pub IsNewOne : Option NewGrant → GrantId → Grant → Type 0
IsNewOne None g grant = ⊥
IsNewOne (Some added) g grant = (g ≡ added.num) × IsRowOf added grant

-- the second tables have the grants of the first, alike, and the new one, if there is one
pub record AddsGrant (added : Option NewGrant) (t u : Tables) : Type 0 where
  pub kept : (g : GrantId) (grant : Grant) → IsGrant t g grant → (other : Grant) × IsGrant u g other × IsAlike g grant other
  pub back : (g : GrantId) (grant : Grant) → IsGrant u g grant → ((other : Grant) × IsGrant t g other × IsAlike g other grant) ⊎ IsNewOne added g grant
  pub new : (one : NewGrant) → added ≡ Some one → (grant : Grant) × IsGrant u one.num grant × IsRowOf one grant
