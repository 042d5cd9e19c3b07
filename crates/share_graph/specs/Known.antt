use Rattle.std.specs.Prelude.{All}
use Rattle.host_base.specs.declared.ids.AccountId.{AccountId}
use Rattle.host_base.specs.declared.ids.AppId.{AppId}
use Rattle.host_base.specs.declared.ids.GrainId.{GrainId}
use Rattle.host_base.specs.declared.ids.GrantId.{GrantId}
use Rattle.share_graph.specs.declared.facts.Node.{Node}
use Rattle.share_graph.specs.declared.facts.Node.TheVariants as node
use Rattle.share_graph.specs.declared.grants.Giver.{Giver}
use Rattle.share_graph.specs.declared.grants.Giver.TheVariants as giver
use Rattle.share_graph.specs.declared.grants.Grant.{Grant}
use Rattle.share_graph.specs.declared.grants.Need.{Need}
use Rattle.share_graph.specs.declared.grants.Need.TheVariants as need
use Rattle.share_graph.specs.declared.grants.Target.{Target}
use Rattle.share_graph.specs.declared.grants.Target.TheVariants as target
use Rattle.share_graph.specs.declared.rows.Account.{Account}
use Rattle.share_graph.specs.declared.rows.App.{App}
use Rattle.share_graph.specs.declared.rows.Grain.{Grain}
use Rattle.share_graph.specs.declared.rows.Saved.{Saved}
use Rattle.share_graph.specs.declared.state.Tables.{Tables}
use Rattle.share_graph.specs.Rows.{IsAccount, IsApp, IsGrain, IsGrant}

-- the row of that number is there
abbrev pub HasAccount : Tables → AccountId → Type 0
HasAccount t a = (account : Account) × IsAccount t a account

abbrev pub HasApp : Tables → AppId → Type 0
HasApp t p = (app : App) × IsApp t p app

abbrev pub HasGrain : Tables → GrainId → Type 0
HasGrain t n = (grain : Grain) × IsGrain t n grain

abbrev pub HasGrant : Tables → GrantId → Type 0
HasGrant t g = (grant : Grant) × IsGrant t g grant

-- the rows that a node, a giver, a target or a need names are there
abbrev pub KnowsNode : Tables → Node → Type 0
KnowsNode t (node.User n a) = HasGrain t n × HasAccount t a
KnowsNode t (node.Grant g) = HasGrant t g

abbrev pub KnowsGiver : Tables → Giver → Type 0
KnowsGiver t (giver.Account a) = HasAccount t a
KnowsGiver t (giver.Grant p) = HasGrant t p
KnowsGiver t (giver.Site by tag item) = HasAccount t by

abbrev pub KnowsTarget : Tables → Target → Type 0
KnowsTarget t (target.Bearer for_sharing) = Unit {0}
KnowsTarget t (target.User a) = HasAccount t a
KnowsTarget t (target.Claim h) = HasGrain t h
KnowsTarget t (target.Grain h) = HasGrain t h

abbrev pub KnowsNeed : Tables → Need → Type 0
KnowsNeed t (need.TokenValid h) = HasGrant t h
KnowsNeed t (need.PermissionsHeld holder set) = KnowsNode t holder
KnowsNeed t (need.UserIsAdmin a) = HasAccount t a

-- every row that the row names is there
pub record KnowsOfGrain (t : Tables) (grain : Grain) : Type 0 where
  pub app : HasApp t grain.app
  pub owner : HasAccount t grain.owner

pub record KnowsOfGrant (t : Tables) (grant : Grant) : Type 0 where
  pub grain : HasGrain t grant.grain
  pub giver : KnowsGiver t grant.giver
  pub target : KnowsTarget t grant.target
  pub needs : All (KnowsNeed t) grant.needs

pub record KnowsOfSaved (t : Tables) (saved : Saved) : Type 0 where
  pub holder : HasGrain t saved.holder
  pub grant : HasGrant t saved.grant
