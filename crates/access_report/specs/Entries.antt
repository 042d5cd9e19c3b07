-- Who has access to a grain.
use Rattle.std.specs.Prelude.{◌≡◌, ◌↔◌, ℕ, List, Contains, AllPairs}
use Rattle.std.specs.declared.cmp.Ordering.TheVariants.{Less}
use Rattle.host_base.specs.declared.ids.GrainId.{GrainId}
use Rattle.perm_roles.specs.PermSet.{Has}
use Rattle.share_graph.specs.declared.facts.Fact.TheVariants.{Open, Perm}
use Rattle.share_graph.specs.declared.facts.Node.{Node}
use Rattle.share_graph.specs.declared.facts.Node.TheVariants as node
use Rattle.share_graph.specs.declared.grants.Grant.{Grant}
use Rattle.share_graph.specs.declared.state.Tables.{Tables}
use Rattle.share_graph.specs.Derivation.{Holds}
use Rattle.share_graph.specs.NodeOrder.{node_cmp}
use Rattle.share_graph.specs.Rows.{IsGrant}
use Rattle.access_report.specs.declared.entry.Entry.{Entry}

-- the node is on the grain: an account's there, or that of a grant on it
abbrev pub IsOn : Tables → GrainId → Node → Type 0
IsOn t n (node.User m a) = m ≡ n
IsOn t n (node.Grant g) = (grant : Grant) × IsGrant t g grant × (grant.grain ≡ n)

-- The entry is of a node on the grain that holds entry, with exactly the permissions that the node holds.
pub record IsEntryOf (t : Tables) (n : GrainId) (entry : Entry) : Type 0 where
  pub on : IsOn t n entry.node
  pub enters : Holds t entry.node Open
  pub exact : (p : ℕ) → Has entry.perms p ↔ Holds t entry.node (Perm p)

-- WHO HAS ACCESS to the grain: each node on it that holds entry, in the order of nodes.
pub record HaveAccess (t : Tables) (n : GrainId) (entries : List Entry) : Type 0 where
  pub each : (entry : Entry) → Contains entries entry → IsEntryOf t n entry
  pub all : (at : Node) → IsOn t n at → Holds t at Open → (entry : Entry) × Contains entries entry × (entry.node ≡ at)
  pub ascend : AllPairs (λ (a : Entry) (b : Entry). node_cmp a.node b.node ≡ Less) entries
