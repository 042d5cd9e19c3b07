-- What evaluations can still come, by what is lacking.
use Rattle.std.specs.Prelude.{◌+◌, ◌&&◌, ◌==◌, ℕ, Bool, true, false, if◌then◌else◌, Option, Some, None, sum_by}
use Rattle.std.specs.List.{list_all}
use Rattle.std.specs.Int.{bit_at}
use Rattle.perm_roles.specs.declared.perm_set.PermSet.{PermSet}
use Rattle.perm_roles.specs.PermSet.{no_permissions, positions}
use Rattle.host_base.specs.declared.ids.GrantId.{GrantId}
use Rattle.share_graph.specs.declared.facts.Node.{Node}
use Rattle.share_graph.specs.declared.facts.Node.TheVariants as node
use Rattle.share_graph.specs.declared.grants.Grant.{Grant}
use Rattle.share_graph.specs.declared.grants.Need.{Need}
use Rattle.share_graph.specs.declared.grants.Need.TheVariants as need
use Rattle.share_graph.specs.declared.state.Tables.{Tables}
use Rattle.share_graph.specs.Nodes.{source_of}
use Rattle.share_graph.specs.Rows.{row}
use Rattle.least_access.specs.declared.held.Held.{Held}
use Rattle.least_access.specs.Held.{room}
use Rattle.least_access.specs.Solved.{Table, held_at}

-- the first set has every position of the second
unfoldable pub covers : PermSet → PermSet → Bool
covers set other = list_all (λ p. bit_at set.bits p == 1) (positions other)

-- what a node holds is all that the need asks of it
abbrev pub meets : Held → Need → Bool
meets held (need.TokenValid h) = held.entry
meets held (need.PermissionsHeld holder set) = held.entry && covers held.perms set
meets held (need.UserIsAdmin a) = true

-- the node that a need names
abbrev pub holder_of : Need → Option Node
holder_of (need.TokenValid h) = Some (node.Grant h)
holder_of (need.PermissionsHeld holder set) = Some holder
holder_of (need.UserIsAdmin a) = None

-- what a table has at a node, which may have no place
abbrev pub held_or : Option Held → Held
held_or (Some held) = held
held_or None = record { entry = false; perms = no_permissions }

abbrev pub held_in : Table → Node → Held
held_in table at = held_or (held_at table at)

-- 1 for a need that isn't met by what the table has at its node
abbrev pub unmet_at : Table → Need → Option Node → ℕ
unmet_at table q None = 0
unmet_at table q (Some at) = if meets (held_in table at) q then 0 else 1

abbrev pub unmet : Table → Need → ℕ
unmet table q = unmet_at table q (holder_of q)

-- what the source of a grant lacks
abbrev pub lacking : Table → Option Node → ℕ
lacking table None = 0
lacking table (Some at) = room (held_in table at)

-- how many evaluations of the grant can still come: one for each fact that its source lacks, and for each need that isn't met
abbrev pub owed_by_grant : Table → Grant → ℕ
owed_by_grant table grant = lacking table (source_of grant) + sum_by (unmet table) grant.needs

abbrev pub owed_by_row : Table → Option Grant → ℕ
owed_by_row table (Some grant) = owed_by_grant table grant
owed_by_row table None = 0

unfoldable pub owed : Tables → Table → GrantId → ℕ
owed t table g = owed_by_row table (row t.grants g.0)
