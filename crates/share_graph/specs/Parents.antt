use Rattle.std.specs.Prelude.{◌≡◌, ◌<◌, ℕ, All}
use Rattle.host_base.specs.declared.ids.GrantId.{GrantId}
use Rattle.share_graph.specs.declared.facts.Node.{Node}
use Rattle.share_graph.specs.declared.facts.Node.TheVariants as node
use Rattle.share_graph.specs.declared.grants.Giver.{Giver}
use Rattle.share_graph.specs.declared.grants.Giver.TheVariants as giver
use Rattle.share_graph.specs.declared.grants.Grant.{Grant}
use Rattle.share_graph.specs.declared.grants.Need.{Need}
use Rattle.share_graph.specs.declared.grants.Need.TheVariants as need
use Rattle.share_graph.specs.declared.grants.Target.{Target}
use Rattle.share_graph.specs.declared.grants.Target.TheVariants as target
use Rattle.share_graph.specs.declared.state.Tables.{Tables}
use Rattle.share_graph.specs.Rows.{IsGrant}

-- the target is no account, and so its grant is a node of its own
abbrev pub IsNoUser : Target → Type 0
IsNoUser (target.User a) = ⊥
IsNoUser (target.Bearer for_sharing) = Unit {0}
IsNoUser (target.Claim h) = Unit {0}
IsNoUser (target.Grain h) = Unit {0}

-- the target is no grain that claimed
abbrev pub IsUnclaimed : Target → Type 0
IsUnclaimed (target.Grain h) = ⊥
IsUnclaimed (target.Bearer for_sharing) = Unit {0}
IsUnclaimed (target.User a) = Unit {0}
IsUnclaimed (target.Claim h) = Unit {0}

-- what a grant with the first target may be passed on to: a bearer's to whoever doesn't claim, and a claim to its grain
abbrev pub PassesTo : Target → Target → Type 0
PassesTo (target.Bearer for_sharing) own = IsUnclaimed own
PassesTo (target.Claim h) own = own ≡ target.Grain h
PassesTo (target.User a) own = ⊥
PassesTo (target.Grain h) own = ⊥

-- a grant is passed on, on its own grain, to what its target allows
pub record IsChild (t : Tables) (p : GrantId) (grant : Grant) : Type 0 where
  pub parent : Grant
  pub is_row : IsGrant t p parent
  pub same_grain : parent.grain ≡ grant.grain
  pub passes : PassesTo parent.target grant.target

-- the giver may give to the target: an account to whoever doesn't claim, a grant to what it may be passed on to, and the site
-- to a claim of the grain itself
abbrev pub GiverFits : Tables → Giver → Grant → Type 0
GiverFits t (giver.Account a) grant = IsUnclaimed grant.target
GiverFits t (giver.Grant p) grant = IsChild t p grant
GiverFits t (giver.Site by tag item) grant = grant.target ≡ target.Claim grant.grain

-- the grant is a node of its own
pub record IsOwnNode (t : Tables) (h : GrantId) : Type 0 where
  pub grant : Grant
  pub is_row : IsGrant t h grant
  pub no_user : IsNoUser grant.target

-- a grant that the need names is a node of its own
abbrev pub HolderFits : Tables → Node → Type 0
HolderFits t (node.User n a) = Unit {0}
HolderFits t (node.Grant h) = IsOwnNode t h

abbrev pub NeedFits : Tables → Need → Type 0
NeedFits t (need.TokenValid h) = IsOwnNode t h
NeedFits t (need.PermissionsHeld holder set) = HolderFits t holder
NeedFits t (need.UserIsAdmin a) = Unit {0}

-- the grant has a parent that it may have, and its needs name grants that are nodes of their own
pub record HasParent (t : Tables) (grant : Grant) : Type 0 where
  pub giver : GiverFits t grant.giver grant
  pub needs : All (NeedFits t) grant.needs

-- a grant that is named has a smaller number
abbrev pub GiverIsEarlier : ℕ → Giver → Type 0
GiverIsEarlier g (giver.Grant p) = p.0 < g
GiverIsEarlier g (giver.Account a) = Unit {0}
GiverIsEarlier g (giver.Site by tag item) = Unit {0}

abbrev pub HolderIsEarlier : ℕ → Node → Type 0
HolderIsEarlier g (node.Grant h) = h.0 < g
HolderIsEarlier g (node.User n a) = Unit {0}

abbrev pub NeedIsEarlier : ℕ → Need → Type 0
NeedIsEarlier g (need.TokenValid h) = h.0 < g
NeedIsEarlier g (need.PermissionsHeld holder set) = HolderIsEarlier g holder
NeedIsEarlier g (need.UserIsAdmin a) = Unit {0}

-- the grants that the grant of number g names have smaller numbers
pub record NamesEarlier (g : ℕ) (grant : Grant) : Type 0 where
  pub giver : GiverIsEarlier g grant.giver
  pub needs : All (NeedIsEarlier g) grant.needs
