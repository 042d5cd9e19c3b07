-- Tables that grow, or whose rows change in what no other row looks at: what was sound by the old ones is so by the new.
use Rattle.std.proofs.Common.{◌≡◌, List, length, refl, sym, ◌∙◌, subst}
use Rattle.std.proofs.lemmas.List.Elements.{All-weaker}
use Rattle.app_manifest.specs.Upgrade.{StillFits}
use Rattle.app_manifest.specs.declared.manifest.Manifest.{Manifest}
use Rattle.host_base.specs.declared.ids.AccountId.{AccountId}
use Rattle.host_base.specs.declared.ids.AppId.{AppId}
use Rattle.host_base.specs.declared.ids.GrainId.{GrainId}
use Rattle.host_base.specs.declared.ids.GrantId.{GrantId}
use Rattle.perm_roles.specs.PermSet.{IsWithin}
use Rattle.perm_roles.specs.Roles.{IsInRoles}
use Rattle.perm_roles.specs.declared.perm_set.PermSet.{PermSet}
use Rattle.perm_roles.specs.declared.roles.Assignment.{Assignment}
use Rattle.perm_roles.specs.declared.roles.Base.{Base}
use Rattle.perm_roles.specs.declared.roles.Base.TheVariants as base
use Rattle.share_graph.specs.declared.facts.Node.{Node}
use Rattle.share_graph.specs.declared.facts.Node.TheVariants as node
use Rattle.share_graph.specs.declared.grants.Giver.{Giver}
use Rattle.share_graph.specs.declared.grants.Giver.TheVariants as giver
use Rattle.share_graph.specs.declared.grants.Grant.{Grant}
use Rattle.share_graph.specs.declared.grants.Need.{Need}
use Rattle.share_graph.specs.declared.grants.Need.TheVariants as need
use Rattle.share_graph.specs.declared.grants.Target.{Target}
use Rattle.share_graph.specs.declared.grants.Target.TheVariants as target
use Rattle.share_graph.specs.declared.rows.App.{App}
use Rattle.share_graph.specs.declared.rows.Grain.{Grain}
use Rattle.share_graph.specs.declared.rows.Saved.{Saved}
use Rattle.share_graph.specs.declared.sessions.Handle.{Handle}
use Rattle.share_graph.specs.declared.sessions.Root.{Root}
use Rattle.share_graph.specs.declared.sessions.Root.TheVariants as root
use Rattle.share_graph.specs.declared.sessions.Run.{Run}
use Rattle.share_graph.specs.declared.sessions.Session.{Session}
use Rattle.share_graph.specs.declared.state.Tables.{Tables}
use Rattle.share_graph.specs.Fitting.{ForApp, IsAssignmentFor, HolderSetFits, NeedSetFits, SetsFit, IsReference}
use Rattle.share_graph.specs.Keys.{IsBearer}
use Rattle.share_graph.specs.Known.{HasAccount, HasApp, HasGrain, HasGrant, KnowsNode, KnowsGiver, KnowsTarget, KnowsNeed, KnowsOfGrain, KnowsOfGrant, KnowsOfSaved}
use Rattle.share_graph.specs.Parents.{IsNoUser, PassesTo, IsChild, GiverFits, IsOwnNode, NeedFits, HasParent}
use Rattle.share_graph.specs.Rows.{IsApp, IsGrain, IsGrant}
use Rattle.share_graph.specs.WellFormed.{MayRoot, IsRootedSession, IsRootedHandle, IsRooted}

-- what fits a manifest fits it
pub fits_same : (manifest : Manifest) → StillFits manifest manifest
fits_same manifest = record { sets = λ set within. within; roles = λ n below. below; names = λ p below. refl }

-- a set and an assignment that fitted a manifest fit the one that may take its place
set_within : (set : PermSet) (x y : App) → StillFits x.manifest y.manifest → IsWithin set (length x.manifest.permissions) → IsWithin set (length y.manifest.permissions)
set_within set x y still within = still.sets set within

in_roles : (old new : Manifest) → StillFits old new → (from : Base) → IsInRoles old.roles from → IsInRoles new.roles from
in_roles old new still (base.Role n) is = still.roles n is
in_roles old new still base.NoRole is = tt
in_roles old new still base.AllAccess is = tt

assignment_for : (a : Assignment) (x y : App) → StillFits x.manifest y.manifest → IsAssignmentFor x.manifest a → IsAssignmentFor y.manifest a
assignment_for a x y still is = record {
  add = still.sets a.add is.add;
  remove = still.sets a.remove is.remove;
  listed = in_roles x.manifest y.manifest still a.base is.listed;
}

-- each row is there again, with what other rows look at; an application may have another manifest, which what fitted still fits
pub record Extends (t u : Tables) : Type 0 where
  pub accounts : (a : AccountId) → HasAccount t a → HasAccount u a
  pub apps : (p : AppId) (x : App) → IsApp t p x → (y : App) × IsApp u p y × StillFits x.manifest y.manifest
  pub grains : (n : GrainId) (x : Grain) → IsGrain t n x → (y : Grain) × IsGrain u n y × (y.app ≡ x.app)
  pub grants : (g : GrantId) (x : Grant) → IsGrant t g x → (y : Grant) × IsGrant u g y × (y.grain ≡ x.grain) × (y.target ≡ x.target)

module _ (t u : Tables) (more : Extends t u) where
  has_app : (p : AppId) → HasApp t p → HasApp u p
  has_app p (x, is) = let (y, there, still) = more.apps p x is in (y, there)

  pub has_grain : (n : GrainId) → HasGrain t n → HasGrain u n
  has_grain n (x, is) = let (y, there, e) = more.grains n x is in (y, there)

  has_grant : (g : GrantId) → HasGrant t g → HasGrant u g
  has_grant g (x, is) = let (y, there, e, f) = more.grants g x is in (y, there)

  knows_node : (at : Node) → KnowsNode t at → KnowsNode u at
  knows_node (node.User n a) (grain, account) = (has_grain n grain, more.accounts a account)
  knows_node (node.Grant g) is = has_grant g is

  knows_giver : (from : Giver) → KnowsGiver t from → KnowsGiver u from
  knows_giver (giver.Account a) is = more.accounts a is
  knows_giver (giver.Grant p) is = has_grant p is
  knows_giver (giver.Site by tag item) is = more.accounts by is

  knows_target : (to : Target) → KnowsTarget t to → KnowsTarget u to
  knows_target (target.Bearer for_sharing) is = is
  knows_target (target.User a) is = more.accounts a is
  knows_target (target.Claim h) is = has_grain h is
  knows_target (target.Grain h) is = has_grain h is

  knows_need : (q : Need) → KnowsNeed t q → KnowsNeed u q
  knows_need (need.TokenValid h) is = has_grant h is
  knows_need (need.PermissionsHeld holder set) is = knows_node holder is
  knows_need (need.UserIsAdmin a) is = more.accounts a is

  pub knows_of_grain : (grain : Grain) → KnowsOfGrain t grain → KnowsOfGrain u grain
  knows_of_grain grain is = record { app = has_app grain.app is.app; owner = more.accounts grain.owner is.owner }

  pub knows_of_grant : (grant : Grant) → KnowsOfGrant t grant → KnowsOfGrant u grant
  knows_of_grant grant is = record {
    grain = has_grain grant.grain is.grain;
    giver = knows_giver grant.giver is.giver;
    target = knows_target grant.target is.target;
    needs = All-weaker (KnowsNeed t) (KnowsNeed u) knows_need grant.needs is.needs;
  }

  pub knows_of_saved : (saved : Saved) → KnowsOfSaved t saved → KnowsOfSaved u saved
  knows_of_saved saved is = record { holder = has_grain saved.holder is.holder; grant = has_grant saved.grant is.grant }

  for_app : (n : GrainId) (P : App → Type 0) → ((x y : App) → StillFits x.manifest y.manifest → P x → P y) → ForApp t n P → ForApp u n P
  for_app n P keeps (app, (grain, is, of), fits) =
      let (y, there, e) = more.grains n grain is in
      let (next, now, still) = more.apps grain.app app of in
      (next, (y, there, subst (λ (p : AppId). IsApp u p next) (sym e) now), keeps app next still fits)

  own_node : (h : GrantId) → IsOwnNode t h → IsOwnNode u h
  own_node h is = let (y, there, e, f) = more.grants h is.grant is.is_row in record { grant = y; is_row = there; no_user = subst IsNoUser (sym f) is.no_user }

  child : (p : GrantId) (grant : Grant) → IsChild t p grant → IsChild u p grant
  child p grant is =
      let (y, there, e, f) = more.grants p is.parent is.is_row in
      record { parent = y; is_row = there; same_grain = e ∙ is.same_grain; passes = subst (λ (to : Target). PassesTo to grant.target) (sym f) is.passes }

  giver_fits : (from : Giver) (grant : Grant) → GiverFits t from grant → GiverFits u from grant
  giver_fits (giver.Account a) grant is = is
  giver_fits (giver.Grant p) grant is = child p grant is
  giver_fits (giver.Site by tag item) grant is = is

  need_fits : (q : Need) → NeedFits t q → NeedFits u q
  need_fits (need.TokenValid h) is = own_node h is
  need_fits (need.PermissionsHeld (node.User n a) set) is = is
  need_fits (need.PermissionsHeld (node.Grant h) set) is = own_node h is
  need_fits (need.UserIsAdmin a) is = is

  pub has_parent : (grant : Grant) → HasParent t grant → HasParent u grant
  has_parent grant is = record { giver = giver_fits grant.giver grant is.giver; needs = All-weaker (NeedFits t) (NeedFits u) need_fits grant.needs is.needs }

  need_set : (q : Need) → NeedSetFits t q → NeedSetFits u q
  need_set (need.TokenValid h) is = is
  need_set (need.PermissionsHeld (node.User n a) set) is = for_app n _ (set_within set) is
  need_set (need.PermissionsHeld (node.Grant h) set) (grant, is, fits) =
      let (y, there, e, f) = more.grants h grant is in (y, there, subst (λ (n : GrainId). HolderSetFits u (node.User n (record { 0 = 0 })) set) (sym e) (for_app grant.grain _ (set_within set) fits))
  need_set (need.UserIsAdmin a) is = is

  pub sets_fit : (grant : Grant) → SetsFit t grant → SetsFit u grant
  sets_fit grant is = record { assignment = for_app grant.grain _ (assignment_for grant.assignment) is.assignment; needs = All-weaker (NeedSetFits t) (NeedSetFits u) need_set grant.needs is.needs }

  pub is_reference : (saved : Saved) → IsReference t saved → IsReference u saved
  is_reference saved (grant, is, claimed) = let (y, there, e, f) = more.grants saved.grant grant is in (y, there, f ∙ claimed)

  may_root : (n : GrainId) (who : Root) → MayRoot t n who → MayRoot u n who
  may_root n (root.Account a) is = more.accounts a is
  may_root n (root.Grant g) (grant, is, on, bearer) =
      let (y, there, e, f) = more.grants g grant is in (y, there, e ∙ on, subst IsBearer (sym f) bearer)

  rooted_session : (session : Session) → IsRootedSession t session → IsRootedSession u session
  rooted_session session is = record { grain = has_grain session.grain is.grain; root = may_root session.grain session.root is.root }

  rooted_handle : (sessions : List Session) (runs : List Run) (handles : List Handle) (handle : Handle) → IsRootedHandle (record { tables = t; sessions = sessions; runs = runs; handles = handles }) handle
      → IsRootedHandle (record { tables = u; sessions = sessions; runs = runs; handles = handles }) handle
  rooted_handle sessions runs handles handle is =
      let (y, there, e, f) = more.grants handle.grant is.grant is.is_grant in record { run = is.run; grant = y; is_run = is.is_run; is_grant = there; claimed = f ∙ is.claimed }

  -- what sessions, runs and handles name is there again
  pub rooted : (sessions : List Session) (runs : List Run) (handles : List Handle) → IsRooted (record { tables = t; sessions = sessions; runs = runs; handles = handles })
      → IsRooted (record { tables = u; sessions = sessions; runs = runs; handles = handles })
  rooted sessions runs handles is = record {
    sessions = All-weaker (IsRootedSession t) (IsRootedSession u) rooted_session sessions is.sessions;
    runs = All-weaker (λ (run : Run). HasGrain t run.grain) (λ (run : Run). HasGrain u run.grain) (λ run. has_grain run.grain) runs is.runs;
    handles = All-weaker _ _ (rooted_handle sessions runs handles) handles is.handles;
  }
