-- The work on a region, between two steps.
use Rattle.std.specs.Prelude.{◌≢◌, ◌⊎◌, ℕ, List, Contains, IsSome, sum_by, AllPairs}
use Rattle.host_base.specs.declared.ids.GrainId.{GrainId}
use Rattle.host_base.specs.declared.ids.GrantId.{GrantId}
use Rattle.share_graph.specs.declared.facts.Fact.{Fact}
use Rattle.share_graph.specs.declared.facts.Node.{Node}
use Rattle.share_graph.specs.declared.facts.Node.TheVariants as node
use Rattle.share_graph.specs.declared.grants.Grant.{Grant}
use Rattle.share_graph.specs.declared.rows.App.{App}
use Rattle.share_graph.specs.declared.rows.Grain.{Grain}
use Rattle.share_graph.specs.declared.state.Tables.{Tables}
use Rattle.share_graph.specs.Derivation.{Owns, IsFactOf, Follows}
use Rattle.share_graph.specs.Nodes.{node_of}
use Rattle.share_graph.specs.Region.{Feeds}
use Rattle.share_graph.specs.Rows.{IsGrant}
use Rattle.least_access.specs.Rounds.{IsSound}
use Rattle.least_access.specs.Solved.{Table, held_at, HeldAt}
use Rattle.region_work.specs.declared.claim.Claim.{Claim}
use Rattle.region_work.specs.Owed.{owed}
use Rattle.region_work.specs.Work.{IsFoundIn, Waits, Work}

-- The index has, for each node, the grants that it feeds, each once.
pub record IsIndexOf (t : Tables) (fed : Node → List GrantId) : Type 0 where
  pub all : (at : Node) (g : GrantId) (grant : Grant) → IsGrant t g grant → Feeds at grant → Contains (fed at) g
  pub rows : (at : Node) (g : GrantId) → Contains (fed at) g → (grant : Grant) × IsGrant t g grant × Feeds at grant
  pub once : (at : Node) → AllPairs (λ (a : GrantId) (b : GrantId). a ≢ b) (fed at)

-- What the table has and what was found holds. What was found is in the table, or waits. What follows from the table is known.
pub record IsWorking (t : Tables) (table : Table) (work : Work) : Type 0 where
  pub table_sound : IsSound t table
  pub found_sound : IsSound t work.found
  pub places : (at : Node) → IsSome (held_at work.found at) → IsSome (held_at table at)
  pub reaches : (at : Node) (g : GrantId) (grant : Grant) → IsSome (held_at work.found at) → IsGrant t g grant → Feeds at grant → IsSome (held_at work.found (node_of g grant))
  pub queued : (c : Claim) → Contains work.queue c → IsFoundIn work.found c
  pub listed : (at : Node) (fact : Fact) → HeldAt work.found at fact → HeldAt table at fact ⊎ Waits work.queue at fact
  pub owners : (n : GrainId) (grain : Grain) (app : App) (fact : Fact) → Owns t n grain app → IsFactOf app fact
      → HeldAt table (node.User n grain.owner) fact ⊎ HeldAt work.found (node.User n grain.owner) fact
  pub closed : (g : GrantId) (grant : Grant) (fact : Fact) → IsGrant t g grant → Follows t (HeldAt table) g grant (node_of g grant) fact
      → HeldAt table (node_of g grant) fact ⊎ HeldAt work.found (node_of g grant) fact

-- the list has every grant whose node has a place among what was found
abbrev pub HasRegion : Tables → Table → List GrantId → Type 0
HasRegion t found gs = (g : GrantId) (grant : Grant) → IsGrant t g grant → IsSome (held_at found (node_of g grant)) → Contains gs g

-- how many evaluations of the grants can still come
abbrev pub owed_by : Tables → Table → List GrantId → ℕ
owed_by t table gs = sum_by (owed t table) gs
