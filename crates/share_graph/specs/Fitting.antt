use Rattle.std.specs.Prelude.{◌≡◌, ◌≤◌, All, Option, Some, None, true, length}
use Rattle.host_base.specs.declared.digest.Digest.{Digest}
use Rattle.host_base.specs.declared.ids.GrainId.{GrainId}
use Rattle.app_manifest.specs.Checks.{double_name, second_that}
use Rattle.app_manifest.specs.Text.{is_permission_name}
use Rattle.app_manifest.specs.declared.manifest.Manifest.{Manifest}
use Rattle.perm_roles.specs.declared.perm_set.PermSet.{PermSet}
use Rattle.perm_roles.specs.declared.roles.Assignment.{Assignment}
use Rattle.perm_roles.specs.PermSet.{IsWithin}
use Rattle.perm_roles.specs.Roles.{IsInRoles}
use Rattle.share_graph.specs.declared.facts.Node.{Node}
use Rattle.share_graph.specs.declared.facts.Node.TheVariants as node
use Rattle.share_graph.specs.declared.grants.Grant.{Grant}
use Rattle.share_graph.specs.declared.grants.Need.{Need}
use Rattle.share_graph.specs.declared.grants.Need.TheVariants as need
use Rattle.share_graph.specs.declared.grants.Target.{Target}
use Rattle.share_graph.specs.declared.grants.Target.TheVariants as target
use Rattle.share_graph.specs.declared.rows.App.{App}
use Rattle.share_graph.specs.declared.rows.Saved.{Saved}
use Rattle.share_graph.specs.declared.state.Tables.{Tables}
use Rattle.share_graph.specs.Expiry.{IsExpiry}
use Rattle.share_graph.specs.Rows.{IsAppOf, IsGrant}

-- The manifest is within its limits, its permissions have names of the right form and of their own, its roles' sets fit, and one
-- role at the most is a default one.
pub record IsSoundManifest (m : Manifest) : Type 0 where
  pub few_permissions : length m.permissions ≤ 64
  pub few_roles : length m.roles ≤ 32
  pub few_requests : length m.match_requests ≤ 16
  pub formed : All (λ def. is_permission_name def.name ≡ true) m.permissions
  pub differ : double_name m.permissions ≡ None
  pub sets_fit : All (λ role. IsWithin role.perms (length m.permissions)) m.roles
  pub one_default : second_that (λ role. role.default) m.roles ≡ None

-- the grain's application has this
abbrev pub ForApp : Tables → GrainId → (App → Type 0) → Type 0
ForApp t n P = (app : App) × IsAppOf t n app × P app

-- the set fits the application of the grain
abbrev pub SetFits : Tables → GrainId → PermSet → Type 0
SetFits t n set = ForApp t n (λ app. IsWithin set (length app.manifest.permissions))

-- the assignment's sets fit the manifest, and a role that it names is there
pub record IsAssignmentFor (m : Manifest) (a : Assignment) : Type 0 where
  pub add : IsWithin a.add (length m.permissions)
  pub remove : IsWithin a.remove (length m.permissions)
  pub listed : IsInRoles m.roles a.base

-- the grant's assignment fits the application of its grain
abbrev pub AssignmentFits : Tables → Grant → Type 0
AssignmentFits t grant = ForApp t grant.grain (λ app. IsAssignmentFor app.manifest grant.assignment)

-- the set fits the application of the grain that the holder is on
abbrev pub HolderSetFits : Tables → Node → PermSet → Type 0
HolderSetFits t (node.User n a) set = SetFits t n set
HolderSetFits t (node.Grant h) set = (grant : Grant) × IsGrant t h grant × SetFits t grant.grain set

abbrev pub NeedSetFits : Tables → Need → Type 0
NeedSetFits t (need.PermissionsHeld holder set) = HolderSetFits t holder set
NeedSetFits t (need.TokenValid h) = Unit {0}
NeedSetFits t (need.UserIsAdmin a) = Unit {0}

-- the grant's assignment and the sets of its needs fit
pub record SetsFit (t : Tables) (grant : Grant) : Type 0 where
  pub assignment : AssignmentFits t grant
  pub needs : All (NeedSetFits t) grant.needs

-- bearers and claims have a token, and no others have one
abbrev pub TokenFits : Target → Option Digest → Type 0
TokenFits (target.Bearer for_sharing) digest = (d : Digest) × (digest ≡ Some d)
TokenFits (target.Claim h) digest = (d : Digest) × (digest ≡ Some d)
TokenFits (target.User a) digest = digest ≡ None
TokenFits (target.Grain h) digest = digest ≡ None

-- the grant has a token where it has to, at most eight needs, and an expiry that a grant can have
pub record SharesWell (grant : Grant) : Type 0 where
  pub token : TokenFits grant.target grant.digest
  pub few_needs : length grant.needs ≤ 8
  pub ends : IsExpiry grant.expires

-- the saved reference is to a grant that its holder claimed
abbrev pub IsReference : Tables → Saved → Type 0
IsReference t saved = (grant : Grant) × IsGrant t saved.grant grant × (grant.target ≡ target.Grain saved.holder)
