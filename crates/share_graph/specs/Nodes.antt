use Rattle.std.specs.Prelude.{Option, Some, None, length}
use Rattle.host_base.specs.declared.ids.GrainId.{GrainId}
use Rattle.host_base.specs.declared.ids.GrantId.{GrantId}
use Rattle.perm_roles.specs.Roles as roles
use Rattle.share_graph.specs.declared.facts.Fact.{Fact}
use Rattle.share_graph.specs.declared.facts.Fact.TheVariants.{Open, Perm}
use Rattle.share_graph.specs.declared.facts.Node.{Node}
use Rattle.share_graph.specs.declared.facts.Node.TheVariants as node
use Rattle.share_graph.specs.declared.grants.Giver.{Giver}
use Rattle.share_graph.specs.declared.grants.Giver.TheVariants as giver
use Rattle.share_graph.specs.declared.grants.Grant.{Grant}
use Rattle.share_graph.specs.declared.grants.Target.{Target}
use Rattle.share_graph.specs.declared.grants.Target.TheVariants as target
use Rattle.share_graph.specs.declared.rows.App.{App}
use Rattle.share_graph.specs.declared.state.Tables.{Tables}
use Rattle.share_graph.specs.Rows.{IsAppOf, IsEnabled}

-- where a grant's facts are held: at the account on the grain that it goes to, else at the grant itself
abbrev pub node_at : GrantId → GrainId → Target → Node
node_at g n (target.User a) = node.User n a
node_at g n (target.Bearer for_sharing) = node.Grant g
node_at g n (target.Claim h) = node.Grant g
node_at g n (target.Grain h) = node.Grant g

abbrev pub node_of : GrantId → Grant → Node
node_of g grant = node_at g grant.grain grant.target

-- what a grant was given from: its giver on its grain, the grant that it was given from, or nothing for the site's own
abbrev pub source_at : GrainId → Giver → Option Node
source_at n (giver.Account a) = Some (node.User n a)
source_at n (giver.Grant p) = Some (node.Grant p)
source_at n (giver.Site by tag item) = None

abbrev pub source_of : Grant → Option Node
source_of grant = source_at grant.grain grant.giver

-- an account that the grant goes to is enabled
abbrev pub MayReceive : Tables → Target → Type 0
MayReceive t (target.User a) = IsEnabled t a
MayReceive t (target.Bearer for_sharing) = Unit {0}
MayReceive t (target.Claim h) = Unit {0}
MayReceive t (target.Grain h) = Unit {0}

-- the grant lets the fact through: entry always, a permission where its assignment gives it by the grain's application
abbrev pub Gives : Tables → Grant → Fact → Type 0
Gives t grant Open = Unit {0}
Gives t grant (Perm p) = (app : App) × IsAppOf t grant.grain app × roles.GivesPermission app.manifest.roles (length app.manifest.permissions) grant.assignment p
