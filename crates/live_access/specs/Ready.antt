-- What is ready for an event.
use Rattle.std.specs.Prelude.{◌≡◌, ◌≢◌, ◌⊎◌, ◌↔◌, ℕ, ◌+◌, Bool, true, false, IsTrue, Option, Some, None, List, [], length, Contains, AllPairs}
use Rattle.host_base.specs.declared.ids.GrantId.{GrantId}
use Rattle.share_graph.specs.declared.event.Event.{Event}
use Rattle.share_graph.specs.declared.event.Event.TheVariants as event
use Rattle.share_graph.specs.declared.facts.Node.{Node}
use Rattle.share_graph.specs.declared.grants.Grant.{Grant}
use Rattle.share_graph.specs.declared.state.State.{State}
use Rattle.share_graph.specs.declared.state.Tables.{Tables}
use Rattle.share_graph.specs.EventFits.{EventFits}
use Rattle.share_graph.specs.History.{after}
use Rattle.share_graph.specs.Nodes.{node_of}
use Rattle.share_graph.specs.Rows.{row}
use Rattle.share_graph.specs.WellFormed.{IsWellFormed}
use Rattle.least_access.specs.Solved.{Table, IsSolutionOf}
use Rattle.region_work.specs.Fed.{fed_in}
use Rattle.region_work.specs.Prepared.{HasGrants}
use Rattle.region_access.specs.Indexes.{Entries, HaveNew}
use Rattle.region_access.specs.Room.{IsRoom}
use Rattle.region_access.specs.Seeds.{IsSeedOf}
use Rattle.live_access.specs.declared.region.Region.{Region}
use Rattle.live_access.specs.Adding.{grant_added, OnlyAdds, IsNewOf}
use Rattle.live_access.specs.Kept.{Kept, IsSolvedFor}

-- the seeds are those of the event; or there are none, and exactly what held before the event holds after it
abbrev pub AreSeedsFor : State → Event → Table → List Node → Type 0
AreSeedsFor s e table seeds = ((at : Node) → Contains seeds at ↔ IsSeedOf s.tables e at) ⊎ ((seeds ≡ []) × IsSolutionOf (after s e).tables table)

-- the nodes whose grants are asked first: the seeds where the table is to grow, and else all nodes of the region
abbrev pub starts_of : Bool → List Node → List Node → List Node
starts_of true seeds nodes = seeds
starts_of false seeds nodes = nodes

-- the state is well formed, the event fits it, and these are its tables
pub record IsBefore (s : State) (e : Event) (t : Tables) : Type 0 where
  pub formed : IsWellFormed s
  pub fits : EventFits s e
  pub tables : s.tables ≡ t

-- How many grants may be evaluated to see that an event changes nothing: a new one itself; a revoked one, and those that go
-- to its node.
abbrev pub looks_at : Entries → GrantId → Option Grant → ℕ
looks_at indexes g (Some grant) = 1 + length (fed_in indexes.arrivals (node_of g grant))
looks_at indexes g None = 0

abbrev pub most_looks : Tables → Entries → Event → ℕ
most_looks t indexes (event.GrantAdded grant) = 1
most_looks t indexes (event.Claimed grant handle) = 1
most_looks t indexes (event.GrantRevoked g) = looks_at indexes g (row t.grants g.0)
most_looks t indexes _ = 0

-- READY FOR AN EVENT that fits. What was kept was solved for the state. The region is what the seeds of the event reach, or
-- nothing where it changes nothing, and all room for it is taken. Where the event only adds, the table is to grow: nothing is
-- taken back; else the region is cleared, and what its nodes held is in the room. A grant that the event adds is in the
-- indexes. The grants are those that go to the starts once the event has happened, each once.
pub record IsReadyFor (s : State) (e : Event) (kept : Kept) (region : Region) : Type 0 where
  pub formed : IsWellFormed s
  pub fits : EventFits s e
  pub start : Kept
  pub solved : IsSolvedFor s.tables start
  pub exact : AreSeedsFor s e start.table region.seeds.items
  pub room : IsRoom s.tables region.seeds.items start.table kept.table region.room
  pub grows : IsTrue region.room.grows ↔ OnlyAdds s.tables e
  pub added : IsNewOf (grant_added e) region.added
  pub has_new : HaveNew region.added start.indexes kept.indexes
  pub grants : HasGrants (after s e).tables (starts_of region.room.grows region.seeds.items region.room.nodes.items) region.grants.items
  pub once : AllPairs (λ (a : GrantId) (b : GrantId). a ≢ b) region.grants.items
