-- An aid for the proof: what a table has after a turn of a grant.
use Rattle.std.specs.Prelude.{◌≡◌, ◌<◌, ◌≤◌, ◌+◌, ◌*◌, ◌⊎◌, ◌∷◌, ℕ, List, Option, Some, None, Contains, IsSome, length}
use Rattle.std.specs.Global.{Vec}
use Rattle.host_base.specs.declared.ids.GrantId.{GrantId}
use Rattle.share_graph.specs.declared.facts.Fact.{Fact}
use Rattle.share_graph.specs.declared.facts.Node.{Node}
use Rattle.share_graph.specs.declared.grants.Grant.{Grant}
use Rattle.share_graph.specs.declared.state.Tables.{Tables}
use Rattle.share_graph.specs.Derivation.{Follows}
use Rattle.share_graph.specs.Nodes.{node_of}
use Rattle.share_graph.specs.Rows.{IsGrant}
use Rattle.least_access.specs.declared.held.Held.{Held}
use Rattle.least_access.specs.Held.{IsIn}
use Rattle.least_access.specs.Rounds.{total_room}
use Rattle.least_access.specs.Solved.{Table, held_at, HeldAt}
use Rattle.region_work.specs.declared.gain.Gain.{Gain}
use Rattle.region_work.specs.Fed.{fed_in}
use Rattle.region_work.specs.Moves.{Moves}
use Rattle.access_report.specs.Steps.{IsOwned}
use Rattle.access_report.specs.Waiting.{IsFeedOf, most_fed}

-- ---- what a node gains

-- the second table has what the first one has
pub record HasMore (old new : Table) : Type 0 where
  pub facts : (at : Node) (fact : Fact) → HeldAt old at fact → HeldAt new at fact
  pub places : (at : Node) → IsSome (held_at old at) → IsSome (held_at new at)

-- the node gained facts, and no other node did
pub record HasMoved (node : Node) (old new : Table) : Type 0 where
  pub gain : Gain
  pub at_node : gain.node ≡ node
  pub moves : Moves gain old new
  pub less : total_room new < total_room old

-- nothing changed, or one node gained facts
pub record IsGain (old new : Table) (gained : Option Node) : Type 0 where
  pub more : HasMore old new
  pub still : gained ≡ None → new ≡ old
  pub moved : (at : Node) → gained ≡ Some at → HasMoved at old new

-- the node holds the facts too, and no more is held; it gained something, or held them all
pub record IsJoined (node : Node) (held : Held) (old new : Table) (gained : Option Node) : Type 0 where
  pub gain : IsGain old new gained
  pub has : (fact : Fact) → IsIn held fact → HeldAt new node fact
  pub only : (at : Node) (fact : Fact) → HeldAt new at fact → HeldAt old at fact ⊎ ((node ≡ at) × IsIn held fact)

-- ---- what follows by grants

-- what follows by the grants from what the first table has, the second one has
abbrev pub IsClosedBy : Tables → List GrantId → Table → Table → Type 0
IsClosedBy t grants seen table = (g : GrantId) (grant : Grant) (fact : Fact) → Contains grants g → IsGrant t g grant → Follows t (HeldAt seen) g grant (node_of g grant) fact → HeldAt table (node_of g grant) fact

-- what follows by those of the grants that don't wait, the table has
abbrev pub IsClosedBut : Tables → List GrantId → List GrantId → Table → Type 0
IsClosedBut t grants waiting table = (g : GrantId) (grant : Grant) (fact : Fact) → Contains grants g → IsGrant t g grant → Follows t (HeldAt table) g grant (node_of g grant) fact
    → HeldAt table (node_of g grant) fact ⊎ Contains waiting g

-- the grant is there, and its node has a place
abbrev pub HasPlace : Tables → Table → GrantId → Type 0
HasPlace t table g = (grant : Grant) × IsGrant t g grant × IsSome (held_at table (node_of g grant))

-- ---- turns

-- the table has more, and has what followed by the grant
pub record IsTurn (t : Tables) (g : GrantId) (old new : Table) (gained : Option Node) : Type 0 where
  pub gain : IsGain old new gained
  pub done : (grant : Grant) (fact : Fact) → IsGrant t g grant → Follows t (HeldAt old) g grant (node_of g grant) fact → HeldAt new (node_of g grant) fact

-- how many turns there can still be
abbrev pub turns_left : List (Node × Vec GrantId) → Table → List GrantId → ℕ
turns_left entries table waiting = total_room table * (most_fed entries + 1) + length waiting

-- A turn of a grant, after which those wait that may pass on more.
pub record IsSpread (t : Tables) (entries : List (Node × Vec GrantId)) (g : GrantId) (old : Table) (waiting : List GrantId) (new : Table) (later : List GrantId) : Type 0 where
  pub more : HasMore old new
  pub closed : (grants : List GrantId) → IsFeedOf t grants (fed_in entries) → IsClosedBut t grants (g ∷ waiting) old → IsClosedBut t grants later new
  pub only : (h : GrantId) → Contains later h → Contains waiting h ⊎ ((at : Node) × Contains (fed_in entries at) h)
  pub less : turns_left entries new later ≤ turns_left entries old waiting

-- The nodes hold what they do as the owners of grains, after which those wait that may pass on more.
pub record AreBegun (t : Tables) (entries : List (Node × Vec GrantId)) (nodes : List Node) (old : Table) (waiting : List GrantId) (new : Table) (later : List GrantId) : Type 0 where
  pub more : HasMore old new
  pub owned : (at : Node) (fact : Fact) → Contains nodes at → IsOwned t at fact → HeldAt new at fact
  pub closed : (grants : List GrantId) → IsFeedOf t grants (fed_in entries) → IsClosedBut t grants waiting old → IsClosedBut t grants later new
  pub only : (h : GrantId) → Contains later h → Contains waiting h ⊎ ((at : Node) × Contains (fed_in entries at) h)
