-- An aid for the proof: grants that wait for their turn.
use Rattle.std.specs.Prelude.{◌≡◌, ◌≢◌, ◌≤◌, ◌+◌, ◌⊎◌, ◌++◌, ◌∷◌, [], ℕ, IsTrue, List, Option, Some, None, Contains, length}
use Rattle.std.specs.BTreeSet.{BTreeSet, contains}
use Rattle.std.specs.Global.{Vec}
use Rattle.host_base.specs.contracts.ids.GrantIdOrd.TheImpl as id_order
use Rattle.host_base.specs.declared.ids.GrantId.{GrantId}
use Rattle.share_graph.specs.declared.facts.Node.{Node}
use Rattle.share_graph.specs.declared.grants.Grant.{Grant}
use Rattle.share_graph.specs.declared.state.Tables.{Tables}
use Rattle.share_graph.specs.Nodes.{source_of}
use Rattle.share_graph.specs.Region.{Feeds}
use Rattle.share_graph.specs.Rows.{IsGrant}
use Rattle.region_work.specs.Fed.{fed_in}

-- ---- grants that wait

-- each grant of the set is in the list
abbrev pub AreListed : BTreeSet GrantId → List GrantId → Type 0
AreListed there waiting = (g : GrantId) → IsTrue (contains id_order.ghosts.cmp there g) → Contains waiting g

-- the grant waits, and all that waited do
pub record IsQueued (g : GrantId) (old new : List GrantId) : Type 0 where
  pub there : Contains new g
  pub keeps : (h : GrantId) → Contains old h → Contains new h
  pub only : (h : GrantId) → Contains new h → Contains old h ⊎ (g ≡ h)
  pub long : length new ≤ length old + 1

-- the grants wait, and all that waited do
pub record AreQueued (gs old new : List GrantId) : Type 0 where
  pub there : (h : GrantId) → Contains gs h → Contains new h
  pub keeps : (h : GrantId) → Contains old h → Contains new h
  pub only : (h : GrantId) → Contains new h → Contains old h ⊎ Contains gs h
  pub long : length new ≤ length old + length gs

-- ---- the grants that nodes feed

-- the node feeds the grant too, and the others feed what they fed
pub record AddsFed (node : Node) (g : GrantId) (old new : Node → List GrantId) : Type 0 where
  pub here : new node ≡ old node ++ g ∷ []
  pub others : (at : Node) → at ≢ node → new at ≡ old at

-- each of the nodes feeds the grant, and all nodes what they fed
pub record AddsToAll (nodes : List Node) (g : GrantId) (old new : Node → List GrantId) : Type 0 where
  pub all : (at : Node) → Contains nodes at → Contains (new at) g
  pub keeps : (at : Node) (h : GrantId) → Contains (old at) h → Contains (new at) h
  pub only : (at : Node) (h : GrantId) → Contains (new at) h → Contains (old at) h ⊎ (g ≡ h)

-- the index has, for each node, those of the grants that it feeds, and none but these grants
pub record IsFeedOf (t : Tables) (grants : List GrantId) (fed : Node → List GrantId) : Type 0 where
  pub all : (at : Node) (g : GrantId) (grant : Grant) → Contains grants g → IsGrant t g grant → Feeds at grant → Contains (fed at) g
  pub only : (at : Node) (g : GrantId) → Contains (fed at) g → Contains grants g

-- how many grants all nodes feed
abbrev pub most_fed : List (Node × Vec GrantId) → ℕ
most_fed [] = 0
most_fed (e ∷ es) = length e.1.items + most_fed es

-- ---- the grants that are made to wait

-- the grants wait that the node feeds, if one gained facts, and all that waited do
pub record AreWoken (entries : List (Node × Vec GrantId)) (gained : Option Node) (old new : List GrantId) : Type 0 where
  pub there : (at : Node) → gained ≡ Some at → (g : GrantId) → Contains (fed_in entries at) g → Contains new g
  pub keeps : (g : GrantId) → Contains old g → Contains new g
  pub only : (g : GrantId) → Contains new g → Contains old g ⊎ ((at : Node) × Contains (fed_in entries at) g)
  pub long : length new ≤ length old + most_fed entries
  pub same : gained ≡ None → new ≡ old

-- the grant waits, if it has no source, and all that waited do
pub record AddsSite (t : Tables) (g : GrantId) (old new : List GrantId) : Type 0 where
  pub there : (grant : Grant) → IsGrant t g grant → source_of grant ≡ None → Contains new g
  pub keeps : (h : GrantId) → Contains old h → Contains new h
  pub only : (h : GrantId) → Contains new h → Contains old h ⊎ (g ≡ h)

-- those of the grants wait that have no source, and all that waited do
pub record AddsSites (t : Tables) (gs old new : List GrantId) : Type 0 where
  pub there : (g : GrantId) (grant : Grant) → Contains gs g → IsGrant t g grant → source_of grant ≡ None → Contains new g
  pub keeps : (h : GrantId) → Contains old h → Contains new h
  pub only : (h : GrantId) → Contains new h → Contains old h ⊎ Contains gs h
