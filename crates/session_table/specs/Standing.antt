-- Who stands behind a key.
use Rattle.std.specs.Prelude.{◌≡◌, Option, Some, None}
use Rattle.host_base.specs.declared.ids.AccountId.{AccountId}
use Rattle.host_base.specs.declared.ids.GrainId.{GrainId}
use Rattle.host_base.specs.declared.ids.GrantId.{GrantId}
use Rattle.host_base.specs.declared.permit.Shown.{Shown}
use Rattle.host_base.specs.declared.permit.Shown.TheVariants as shown
use Rattle.host_base.specs.declared.permit.TabMark.{TabMark}
use Rattle.share_graph.specs.declared.facts.Node.{Node}
use Rattle.share_graph.specs.declared.facts.Node.TheVariants as node
use Rattle.share_graph.specs.declared.grants.Grant.{Grant}
use Rattle.share_graph.specs.declared.rows.Account.{Account}
use Rattle.share_graph.specs.declared.sessions.Root.{Root}
use Rattle.share_graph.specs.declared.sessions.Root.TheVariants as root
use Rattle.share_graph.specs.declared.sessions.Session.{Session}
use Rattle.share_graph.specs.declared.state.Tables.{Tables}
use Rattle.share_graph.specs.Rows.{IsAccount}
use Rattle.share_graph.specs.Ways.{IsShownAs}

-- Who acts on a grain: an account, or whoever holds a grant; for a session with the mark of its tab.
pub record Standing : Type 0 where
  pub grain : GrainId
  pub root : Root
  pub tab : Option TabMark

-- behind a session stands its root on its grain, with its tab
abbrev pub behind_session : Session → Standing
behind_session session = record { grain = session.grain; root = session.root; tab = Some (record { tab = session.tab; session = session.num }) }

-- behind a bearer's token, and behind a handle, stands the grant, on its grain
abbrev pub behind_grant : GrantId → Grant → Standing
behind_grant g grant = record { grain = grant.grain; root = root.Grant g; tab = None }

-- the node of a standing: the account on the grain, or the grant
abbrev pub node_on : GrainId → Root → Node
node_on n (root.Account a) = node.User n a
node_on n (root.Grant g) = node.Grant g

abbrev pub node_behind : Standing → Node
node_behind standing = node_on standing.grain standing.root

-- shown as nobody, or as an account with its row's handle and name
abbrev pub IsShownBy : Tables → Option AccountId → Shown → Type 0
IsShownBy t None face = face ≡ shown.Anonymous
IsShownBy t (Some a) face = (account : Account) × IsAccount t a account × (face ≡ shown.Account a account.handle account.name)

-- an account is shown as itself, and whoever holds a grant as the grant's bearer
abbrev pub IsShownFor : Tables → Root → Shown → Type 0
IsShownFor t (root.Account a) face = IsShownBy t (Some a) face
IsShownFor t (root.Grant g) face = (who : Option AccountId) × IsShownAs t g who × IsShownBy t who face
