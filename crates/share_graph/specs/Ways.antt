use Rattle.std.specs.Prelude.{◌≡◌, ℕ, Bool, true, false, List, [], ◌∷◌, Option, Some, None}
use Rattle.std.specs.List.{list_any}
use Rattle.host_base.specs.declared.ids.AccountId.{AccountId}
use Rattle.host_base.specs.declared.ids.GrantId.{GrantId}
use Rattle.share_graph.specs.declared.grants.Giver.{Giver}
use Rattle.share_graph.specs.declared.grants.Giver.TheVariants as giver
use Rattle.share_graph.specs.declared.grants.Grant.{Grant}
use Rattle.share_graph.specs.declared.state.Tables.{Tables}
use Rattle.share_graph.specs.declared.ways.Origin.{Origin}
use Rattle.share_graph.specs.declared.ways.Origin.TheVariants as origin
use Rattle.share_graph.specs.Clues.{is_for_sharing, parent_of}
use Rattle.share_graph.specs.Rows.{IsGrant, row}

-- The way of a grant is the grant, its giver's grant, and so on to the first giver that is no grant. There the way ends: at an
-- account, or at the site, by whom it gave.
pub data IsWay (t : Tables) : GrantId → List Grant → Origin → Type 0 where
  from_account : {g : GrantId} {grant : Grant} {a : AccountId} → IsGrant t g grant → grant.giver ≡ giver.Account a → IsWay t g (grant ∷ []) (origin.Account a)
  from_site : {g : GrantId} {grant : Grant} {by : AccountId} {tag item : ℕ} → IsGrant t g grant → grant.giver ≡ giver.Site by tag item
      → IsWay t g (grant ∷ []) (origin.Site by tag item)
  from_grant : {g p : GrantId} {grant : Grant} {way : List Grant} {end : Origin} → IsGrant t g grant → grant.giver ≡ giver.Grant p → IsWay t p way end
      → IsWay t g (grant ∷ way) end

-- whether some grant on a way is marked for sharing
abbrev pub is_shared_on : List Grant → Bool
is_shared_on way = list_any (λ grant. is_for_sharing grant.target) way

-- where the way of a grant ends
abbrev pub IsOrigin : Tables → GrantId → Origin → Type 0
IsOrigin t g end = (way : List Grant) × IsWay t g way end

-- the account at the end of a way: the giver, or the one by whom the site gave
abbrev pub maker_of : Origin → AccountId
maker_of (origin.Account a) = a
maker_of (origin.Site by tag item) = by

-- the root maker of a grant: the account at the end of its way
abbrev pub IsRootMaker : Tables → GrantId → AccountId → Type 0
IsRootMaker t g a = (end : Origin) × IsOrigin t g end × (a ≡ maker_of end)

-- a way to an end, and whether some grant on it is marked for sharing
pub record IsWayTo (t : Tables) (g : GrantId) (end : Origin) (shared : Bool) : Type 0 where
  pub way : List Grant
  pub is_way : IsWay t g way end
  pub shared_is : is_shared_on way ≡ shared

-- as whom the bearer of a grant is shown: as nobody where some grant on its way is marked for sharing, else as the root maker
abbrev pub IsShownAs : Tables → GrantId → Option AccountId → Type 0
IsShownAs t g None = (end : Origin) × IsWayTo t g end true
IsShownAs t g (Some a) = (end : Origin) × IsWayTo t g end false × (a ≡ maker_of end)

-- a way that ends with this giver ends there
abbrev pub IsEndOf : Giver → Origin → Type 0
IsEndOf (giver.Account a) end = end ≡ origin.Account a
IsEndOf (giver.Site by tag item) end = end ≡ origin.Site by tag item
IsEndOf (giver.Grant p) end = ⊥

-- the ways end there that lead to the grant of the number
pub record EndsAt (t : Tables) (root : ℕ) (end : Origin) : Type 0 where
  pub grant : Grant
  pub is_row : row t.grants root ≡ Some grant
  pub is_end : IsEndOf grant.giver end

-- the grant of the number is there, and given by no grant
abbrev pub IsRoot : Tables → ℕ → Type 0
IsRoot t root = (grant : Grant) × (row t.grants root ≡ Some grant) × (parent_of grant.giver ≡ None)
