-- What is held at a node.
use Rattle.std.specs.Prelude.{◌≡◌, ◌+◌, ◌-◌, ℕ, true, length, if◌then◌else◌}
use Rattle.perm_roles.specs.declared.perm_set.PermSet.{PermSet}
use Rattle.perm_roles.specs.PermSet.{Has, positions}
use Rattle.share_graph.specs.declared.facts.Fact.{Fact}
use Rattle.share_graph.specs.declared.facts.Fact.TheVariants.{Open, Perm}
use Rattle.least_access.specs.declared.held.Held.{Held}

-- the fact is among what is held
abbrev pub IsIn : Held → Fact → Type 0
IsIn held Open = held.entry ≡ true
IsIn held (Perm p) = Has held.perms p

-- Of the measure by which solving ends: how many more positions the set can gain, and how much more can be held.
unfoldable pub gain : PermSet → ℕ
gain set = 64 - length (positions set)

abbrev pub room : Held → ℕ
room held = (if held.entry then 0 else 1) + gain held.perms
