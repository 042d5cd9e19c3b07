-- What is made ready for a change.
use Rattle.std.specs.Prelude.{◌≡◌, ◌↔◌, Bool, true, false, List, Some, Contains, IsSome}
use Rattle.share_graph.specs.declared.facts.Fact.{Fact}
use Rattle.share_graph.specs.declared.facts.Node.{Node}
use Rattle.share_graph.specs.declared.state.Tables.{Tables}
use Rattle.least_access.specs.declared.held.Held.{Held}
use Rattle.least_access.specs.Held.{IsIn}
use Rattle.least_access.specs.Solved.{Table, held_at, HeldAt}
use Rattle.region_access.specs.declared.room.Room.{Room}
use Rattle.region_access.specs.Clearing.{IsWhatWas}
use Rattle.region_work.specs.Prepared.{Clears, IsFresh}
use Rattle.region_access.specs.Reaching.{IsRegionOf}

-- the tables have the same facts, whatever places they have
abbrev pub HasSameFacts : Table → Table → Type 0
HasSameFacts old new = (at : Node) (fact : Fact) → HeldAt new at fact ↔ HeldAt old at fact

-- the node has a place in the table, and holds nothing
abbrev pub HasEmptyPlace : Table → Node → Type 0
HasEmptyPlace table at = (held : Held) × (held_at table at ≡ Some held) × ((fact : Fact) → IsIn held fact → ⊥)

-- A table that is to grow stays. In another one the room's nodes are cleared, and the room has what they held.
abbrev pub IsOpened : Bool → Room → Table → Table → Type 0
IsOpened true room start new = new ≡ start
IsOpened false room start new =
    Clears room.nodes.items start new × IsWhatWas start room.nodes.items room.before.items

-- The room has the region of the seeds, with places in the table, which is opened there, and nothing was found yet.
pub record IsRoom (t : Tables) (seeds : List Node) (old new : Table) (room : Room) : Type 0 where
  pub region : IsRegionOf t seeds room.nodes.items
  pub start : Table
  pub same : HasSameFacts old start
  pub opened : IsOpened room.grows room start new
  pub places : (at : Node) → Contains room.nodes.items at → IsSome (held_at new at)
  pub fresh : IsFresh room.nodes.items room.waiting

-- the table is as it was when it was made ready with the room
abbrev pub WasCleared : Table → Room → Type 0
WasCleared table room = (t : Tables) × (seeds : List Node) × (old : Table) × IsRoom t seeds old table room
