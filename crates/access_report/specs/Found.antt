-- An aid for the proof: the nodes on a grain that were found so far, each with what it holds.
use Rattle.std.specs.Prelude.{◌≡◌, ◌⊎◌, ◌↔◌, Option, Some, None, IsSome, if◌then◌else◌}
use Rattle.host_base.specs.declared.ids.GrainId.{GrainId}
use Rattle.host_base.specs.declared.ids.GrantId.{GrantId}
use Rattle.share_graph.specs.declared.facts.Fact.{Fact}
use Rattle.share_graph.specs.declared.facts.Node.{Node}
use Rattle.share_graph.specs.declared.grants.Grant.{Grant}
use Rattle.share_graph.specs.declared.state.Tables.{Tables}
use Rattle.share_graph.specs.Rows.{IsGrant}
use Rattle.least_access.specs.declared.held.Held.{Held}
use Rattle.least_access.specs.Held.{IsIn}
use Rattle.least_access.specs.Solved.{Table, held_at, HeldAt}
use Rattle.access_report.specs.declared.entry.Entry.{Entry}
use Rattle.access_report.specs.Entries.{IsOn}

-- the grant of that number is there, on the grain
abbrev pub IsGrantOn : Tables → GrainId → GrantId → Type 0
IsGrantOn t n g = (grant : Grant) × IsGrant t g grant × (grant.grain ≡ n)

-- a table has places for the nodes that another has places for
abbrev pub HasPlaces : Table → Table → Type 0
HasPlaces old new = (at : Node) → IsSome (held_at old at) → IsSome (held_at new at)

-- each node is on the grain, with exactly what the solution has there
abbrev pub AreFound : Tables → GrainId → Table → Table → Type 0
AreFound t n solved found = (at : Node) (held : Held) → held_at found at ≡ Some held → IsOn t n at × ((fact : Fact) → IsIn held fact ↔ HeldAt solved at fact)

-- The table has a place more at the most, for the node, with exactly what the solution has there.
pub record HasOneMore (solved old new : Table) (node : Node) : Type 0 where
  pub only : (at : Node) (held : Held) → held_at new at ≡ Some held
      → (held_at old at ≡ Some held) ⊎ ((node ≡ at) × ((fact : Fact) → IsIn held fact ↔ HeldAt solved at fact))
  pub keeps : HasPlaces old new
  pub there : IsSome (held_at new node)

-- the entry of a node, if what is held there has entry
abbrev pub entry_of : Node × Held → Option Entry
entry_of (at, held) = if held.entry then Some (record { node = at; perms = held.perms }) else None
