-- The rows that the commands add, and the tests of this desk alone.
use Rattle.std.specs.Prelude.{◌≡◌, ℕ, ◌+◌, ◌==◌, Bool, true, false, List, [], ◌∷◌, Some, None, IsTrue, count_by, is_some}
use Rattle.desk_base.specs.Terms.{AccountId, Assignment, Digest, ForApp, GrainId, Grant, GrantId, Handle, IsOneOf}
use Rattle.desk_base.specs.Terms.{IsRootMaker, Made, Need, PermSet, Refusal, RunId, Saved, State, Tables, Target}
use Rattle.host_base.specs.declared.verdict.Denial.TheVariants.{NotHolder}
use Rattle.perm_roles.specs.PermSet.{no_permissions}
use Rattle.perm_roles.specs.declared.roles.Base.TheVariants as base
use Rattle.powerbox_match.specs.Descriptor.{DescriptorData}
use Rattle.powerbox_match.specs.Matching.{match_of}
use Rattle.share_graph.specs.declared.facts.Node.TheVariants as node
use Rattle.share_graph.specs.declared.grants.Giver.TheVariants as giver
use Rattle.share_graph.specs.declared.grants.Need.TheVariants as need
use Rattle.share_graph.specs.declared.grants.Target.TheVariants as target
use Rattle.share_graph.specs.declared.refusal.Refusal.TheVariants.{Denied}
use Rattle.share_graph.specs.Keys.{IsGivenFrom, HasToken}
use Rattle.desk_base.specs.Made.{next, nothing_made}
use Rattle.desk_base.specs.Steps.{Step}
use Rattle.desk_base.specs.Granting.{new_grant, all_access}

-- no role, and nothing added or removed
abbrev pub no_role : Assignment
no_role = record { base = base.NoRole; add = no_permissions; remove = no_permissions }

-- the needs of what is chosen from a site: that the chooser is an admin, where the offer is for admins alone
abbrev pub admin_needs : Bool → AccountId → List Need
admin_needs true a = need.UserIsAdmin a ∷ []
admin_needs false a = []

-- what a grain holds once it claimed: all that the chosen grant has, while its root maker holds the set on the holder
abbrev pub claimed_grant : Tables → GrainId → Grant → PermSet → AccountId → Grant
claimed_grant t holder chosen set maker =
    new_grant t chosen.grain (giver.Grant chosen.num) (target.Grain holder) all_access (need.PermissionsHeld (node.User holder maker) set ∷ []) None None

-- how many handles a run has
abbrev pub count_of : List Handle → RunId → ℕ
count_of handles r = count_by (λ (other : Handle). other.run.0 == r.0) handles

-- a run's next handle, to a grant
abbrev pub new_handle : State → RunId → GrantId → Handle
new_handle s r g = record { run = r; num = count_of s.handles r + 1; grant = g }

-- the handle to the grant that a claim adds
abbrev pub claimed_handle : State → RunId → Handle
claimed_handle s r = new_handle s r (record { 0 = next s.tables.grants })

-- the reply shows the number of a handle; of a grant and a handle; of a saved reference
abbrev pub shown_handle : ℕ → Made
shown_handle num = record nothing_made { handle = Some num }

abbrev pub made_claim : Tables → Handle → Made
made_claim t handle = record nothing_made { grant = Some (next t.grants); handle = Some handle.num }

abbrev pub made_saved : Tables → Made
made_saved t = record nothing_made { saved = Some (next t.saved) }

-- a new saved reference isn't dropped
abbrev pub new_saved : Tables → GrainId → GrantId → List ℕ → Digest → Saved
new_saved t holder g label d = record { num = record { 0 = next t.saved }; holder = holder; grant = g; label = label; digest = d; dropped = false }

-- the grant has the token, and is for the grain to claim
abbrev pub IsClaim : Tables → Digest → Grant × GrainId → Type 0
IsClaim t d (grant, holder) = IsOneOf t.grants (HasToken d) grant × (grant.target ≡ target.Claim holder)

-- some grant was given from the grant
abbrev pub IsClaimed : Tables → GrantId → Type 0
IsClaimed t g = (grant : Grant) × IsOneOf t.grants (IsGivenFrom g) grant

-- what the grain's application offers matches the query
abbrev pub IsMatching : Tables → GrainId → List DescriptorData → Type 0
IsMatching t n query = ForApp t n (λ app. IsTrue (is_some (match_of query app.manifest.match_requests)))

-- the root maker of a grant that is there, which is one account
abbrev pub with_maker : Tables → GrantId → (AccountId → Step → Type 0) → Step → Type 0
with_maker t g Rest step = (maker : AccountId) × IsRootMaker t g maker × Rest maker step
