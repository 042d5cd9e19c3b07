-- An aid for the proofs of solving: what a table has so far, and how much more it can have.
use Rattle.std.specs.Prelude.{ℕ, sum_by}
use Rattle.std.specs.Map.{values_of}
use Rattle.host_base.specs.declared.ids.GrainId.{GrainId}
use Rattle.host_base.specs.declared.ids.GrantId.{GrantId}
use Rattle.share_graph.specs.declared.facts.Fact.{Fact}
use Rattle.share_graph.specs.declared.facts.Node.{Node}
use Rattle.share_graph.specs.declared.facts.Node.TheVariants as node
use Rattle.share_graph.specs.declared.grants.Grant.{Grant}
use Rattle.share_graph.specs.declared.rows.App.{App}
use Rattle.share_graph.specs.declared.rows.Grain.{Grain}
use Rattle.share_graph.specs.declared.state.Tables.{Tables}
use Rattle.share_graph.specs.Derivation.{Owns, IsFactOf, Holds, Follows}
use Rattle.share_graph.specs.Rows.{IsGrant}
use Rattle.least_access.specs.Held.{room}
use Rattle.least_access.specs.Solved.{Table, HeldAt}

-- how much more the nodes of the table can hold
abbrev pub total_room : Table → ℕ
total_room table = sum_by room (values_of table)

-- what the table has, holds
abbrev pub IsSound : Tables → Table → Type 0
IsSound t table = (at : Node) (fact : Fact) → HeldAt table at fact → Holds t at fact

-- the table has what the owners of grains hold
abbrev pub HasOwners : Tables → Table → Type 0
HasOwners t table = (n : GrainId) (grain : Grain) (app : App) (fact : Fact) → Owns t n grain app → IsFactOf app fact → HeldAt table (node.User n grain.owner) fact

-- what follows by the grant from what the table has, the table has
abbrev pub IsClosedAt : Tables → Table → GrantId → Grant → Type 0
IsClosedAt t table g grant = (at : Node) (fact : Fact) → Follows t (HeldAt table) g grant at fact → HeldAt table at fact

abbrev pub IsClosed : Tables → Table → Type 0
IsClosed t table = (g : GrantId) (grant : Grant) → IsGrant t g grant → IsClosedAt t table g grant
