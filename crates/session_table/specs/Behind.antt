-- An aid for the proof of the verdict: what is known of whoever stands behind a good key.
use Rattle.share_graph.specs.declared.sessions.Root.{Root}
use Rattle.share_graph.specs.declared.sessions.Root.TheVariants as root
use Rattle.share_graph.specs.declared.state.Tables.{Tables}
use Rattle.share_graph.specs.Known.{HasAccount, HasGrant, HasGrain}
use Rattle.share_graph.specs.Missing.{IsNode}
use Rattle.session_table.specs.Standing.{Standing, node_behind}

-- the root is there
abbrev pub HasRoot : Tables → Root → Type 0
HasRoot t (root.Account a) = HasAccount t a
HasRoot t (root.Grant g) = HasGrant t g

-- the grain is there, and whoever stands there can hold facts on it
pub record IsBehind (t : Tables) (standing : Standing) : Type 0 where
  pub grain : HasGrain t standing.grain
  pub node : IsNode t (node_behind standing)
  pub root : HasRoot t standing.root
