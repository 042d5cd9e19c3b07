-- What a change of the tables can reach.
use Rattle.std.specs.Prelude.{◌≡◌, ◌⊎◌, Some, None, Contains}
use Rattle.host_base.specs.declared.ids.GrainId.{GrainId}
use Rattle.host_base.specs.declared.ids.GrantId.{GrantId}
use Rattle.share_graph.specs.declared.rows.Grain.{Grain}
use Rattle.share_graph.specs.declared.grants.Grant.{Grant}
use Rattle.share_graph.specs.declared.state.Tables.{Tables}
use Rattle.share_graph.specs.declared.grants.Need.{Need}
use Rattle.share_graph.specs.declared.facts.Fact.{Fact}
use Rattle.share_graph.specs.declared.facts.Node.{Node}
use Rattle.share_graph.specs.declared.facts.Node.TheVariants as node
use Rattle.share_graph.specs.Nodes.{node_of, source_of}
use Rattle.share_graph.specs.Rows.{IsGrant}
use Rattle.share_graph.specs.Derivation.{Owns, IsFactOf, LetsThrough, IsOpenSite, Asks, AsksNow}
use Rattle.share_graph.specs.declared.rows.App.{App}

-- the grant has the node as its source, or a need of it names the node
abbrev pub Feeds : Node → Grant → Type 0
Feeds at grant = (source_of grant ≡ Some at) ⊎ ((q : Need) × Contains grant.needs q × ((asked : Fact) × Asks q at asked))

-- the nodes that are reached from the seeds along shares and needs; a grant of the site has its facts at itself
pub data Reached (t : Tables) (Seed : Node → Type 0) : Node → Type 0 where
  seed : {at : Node} → Seed at → Reached t Seed at
  along : {from : Node} → Reached t Seed from → (g : GrantId) (grant : Grant) → IsGrant t g grant → Feeds from grant → Reached t Seed (node_of g grant)
  to_site : {from : Node} → Reached t Seed from → (g : GrantId) (grant : Grant) → IsGrant t g grant → source_of grant ≡ None → Feeds from grant → Reached t Seed (node.Grant g)

-- the owner holds the fact on the grain of itself, by some row of its application
abbrev pub OwnsFact : Tables → GrainId → Grain → Fact → Type 0
OwnsFact t n grain fact = (app : App) × Owns t n grain app × IsFactOf app fact

-- at every node outside the set, what the first tables give by one row, the second give too
pub record GivesOutside (Inside : Node → Type 0) (t u : Tables) : Type 0 where
  pub owned : (n : GrainId) (grain : Grain) (fact : Fact) → ¬ Inside (node.User n grain.owner) → OwnsFact t n grain fact → OwnsFact u n grain fact
  pub passed : (g : GrantId) (grant : Grant) (fact : Fact) → ¬ Inside (node_of g grant) → LetsThrough t g grant fact → LetsThrough u g grant fact
  pub asked : (g : GrantId) (grant : Grant) (q : Need) → ¬ Inside (node_of g grant) → IsGrant t g grant → Contains grant.needs q → AsksNow t q → AsksNow u q
  pub asked_of_site : (g : GrantId) (grant : Grant) (q : Need) → ¬ Inside (node.Grant g) → IsGrant t g grant → source_of grant ≡ None → Contains grant.needs q → AsksNow t q → AsksNow u q
  pub opened : (g : GrantId) (grant : Grant) → ¬ Inside (node.Grant g) → source_of grant ≡ None → IsOpenSite t g grant → IsOpenSite u g grant
