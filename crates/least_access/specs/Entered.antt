-- The grains that an account enters.
use Rattle.std.specs.Prelude.{◌↔◌, ◌<◌, ◌^◌, List, Option, Some, None, Contains, AllPairs, if◌then◌else◌}
use Rattle.host_base.specs.declared.ids.AccountId.{AccountId}
use Rattle.host_base.specs.declared.ids.GrainId.{GrainId}
use Rattle.share_graph.specs.declared.facts.Fact.TheVariants.{Open}
use Rattle.share_graph.specs.declared.facts.Node.{Node}
use Rattle.share_graph.specs.declared.facts.Node.TheVariants as node
use Rattle.least_access.specs.declared.held.Held.{Held}
use Rattle.least_access.specs.Solved.{Table, HeldAt}

-- THE GRAINS THAT AN ACCOUNT ENTERS: each number of 32 bits, as all are, of a grain on which it has entry, and
-- no other, in ascending order.
pub record AreEntered (table : Table) (a : AccountId) (grains : List GrainId) : Type 0 where
  pub ascend : AllPairs (λ (n : GrainId) (m : GrainId). n.0 < m.0) grains
  pub exact : (n : GrainId) → Contains grains n ↔ ((n.0 < 2 ^ 32) × HeldAt table (node.User n a) Open)

-- An aid for the proof: the grain that is entered by an entry of a table, if one is.
abbrev pub entered_by : Node × Held → Option GrainId
entered_by (node.User n a, held) = if held.entry then Some n else None
entered_by (node.Grant g, held) = None
