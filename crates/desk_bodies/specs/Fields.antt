-- The shapes of fields. A field is the value under its key, or none where the key isn't there; each shape says what it states, and
-- that is nothing where the field is missing or hasn't the shape. So `null` is a value, which has none of these shapes. Where an object
-- has several of the keys that choose its kind, the first in the order here counts, and the others are further keys.
use Rattle.std.specs.Prelude.{ℕ, ◌^◌, nat_le, nat_lt, Bool, List, [], length, codes, Option, Some, None, option_map, if◌then◌else◌}
use Rattle.std.specs.Option.{option_map_or}
use Rattle.std.specs.Result.{result_ok}
use Rattle.std.specs.Str.{bytes_eq}
use Rattle.sha2.specs.Sha256.{sha256}
use Rattle.serde_json.specs.Data.{Data}
use Rattle.serde_json.specs.Find.{get, as_bool, as_number, as_str, as_u64}
use Rattle.host_base.specs.declared.digest.Digest.{Digest}
use Rattle.host_base.specs.declared.ids.AccountId.{AccountId}
use Rattle.host_base.specs.declared.ids.AppId.{AppId}
use Rattle.host_base.specs.declared.ids.GrainId.{GrainId}
use Rattle.host_base.specs.declared.ids.GrantId.{GrantId}
use Rattle.perm_roles.specs.PermSet.{no_permissions, set_of}
use Rattle.perm_roles.specs.declared.perm_set.PermSet.{PermSet}
use Rattle.perm_roles.specs.declared.roles.Assignment.{Assignment}
use Rattle.perm_roles.specs.declared.roles.Base.{Base}
use Rattle.perm_roles.specs.declared.roles.Base.TheVariants.{NoRole, AllAccess, Role}
use Rattle.powerbox_match.specs.Descriptor.{DescriptorData}
use Rattle.powerbox_match.specs.Shape as shape
use Rattle.app_manifest.specs.Fields.{◌>>=◌, flags_of, list_of}
use Rattle.app_manifest.specs.Stated.{only_object}
use Rattle.app_manifest.specs.Text.{text_with, is_title}
use Rattle.share_graph.specs.Fresh.{is_handle}
use Rattle.share_graph.specs.declared.desk.Offer.{Offer}
use Rattle.share_graph.specs.declared.desk.Offer.TheVariants.{Grain, Site}
use Rattle.share_graph.specs.declared.facts.Node.{Node}
use Rattle.share_graph.specs.declared.facts.Node.TheVariants.{User, Grant}
use Rattle.share_graph.specs.declared.grants.Need.{Need}
use Rattle.share_graph.specs.declared.grants.Need.TheVariants.{TokenValid, PermissionsHeld, UserIsAdmin}

-- a name, a title or a label: a text of 1 to 200 bytes, none of which is a control character
abbrev pub name_of : Option Data → Option (List ℕ)
name_of found = text_with is_title (found >>= as_str)

-- a handle: such a text of 1 to 32 of `a` to `z`, digits and `_`, which begins with a letter
abbrev pub handle_of : Option Data → Option (List ℕ)
handle_of found = text_with is_handle (name_of found)

-- a mark: a boolean
abbrev pub mark_of : Option Data → Option Bool
mark_of found = found >>= as_bool

-- a token: any text, of which the SHA-256 digest counts
abbrev pub token_of : Option Data → Option Digest
token_of found = option_map (λ text. record { 0 = sha256 text }) (found >>= as_str)

-- a tab, which may be missing: what is written as an integer from 0 to 2^64 - 1
abbrev pub tab_of : Option Data → Option (Option ℕ)
tab_of None = Some None
tab_of (Some d) = option_map Some (as_number d >>= as_u64)

-- an expiry, which may be missing: what is written as an integer from 1 to 2^64 - 1, a moment in seconds
abbrev pub expiry_of : Option Data → Option (Option ℕ)
expiry_of None = Some None
expiry_of (Some d) = do
  end ← as_number d >>= as_u64
  if nat_lt 0 end then Some (Some end) else None

-- a number of 32 bits: what is written as an integer, and is below 2^32
abbrev pub number_of : Option Data → Option ℕ
number_of found = do
  number ← found >>= as_number >>= as_u64
  if nat_lt number (2 ^ 32) then Some number else None

-- such a number, of an account, an application, a grain or a grant
abbrev pub account_of : Option Data → Option AccountId
account_of found = option_map (λ number. record { 0 = number }) (number_of found)

-- an account, which may be missing
abbrev pub member_of : Option Data → Option (Option AccountId)
member_of None = Some None
member_of (Some d) = option_map Some (account_of (Some d))

-- the number behind which a page is asked for, which may be missing
abbrev pub after_of : Option Data → Option ℕ
after_of None = Some 0
after_of (Some d) = number_of (Some d)

abbrev pub app_of : Option Data → Option AppId
app_of found = option_map (λ number. record { 0 = number }) (number_of found)

abbrev pub grain_of : Option Data → Option GrainId
grain_of found = option_map (λ number. record { 0 = number }) (number_of found)

abbrev pub grant_of : Option Data → Option GrantId
grant_of found = option_map (λ number. record { 0 = number }) (number_of found)

-- a set of permissions: a list of at most 64 booleans, which stands for the places at which it has true
abbrev pub permissions_of : Option Data → Option PermSet
permissions_of found = do
  list ← flags_of found
  if nat_le (length list) 64 then Some (set_of list) else None

-- the same, which may be missing, and is empty then
abbrev pub permissions_or_empty : Option Data → Option PermSet
permissions_or_empty None = Some no_permissions
permissions_or_empty (Some d) = permissions_of (Some d)

-- the base of a name: `none` or `all`
abbrev pub named_base : List ℕ → Option Base
named_base name =
    if bytes_eq name (codes "none") then Some NoRole else
    if bytes_eq name (codes "all") then Some AllAccess else None

-- the base of a role's number, which is below 2^16
abbrev pub role_base : ℕ → Option Base
role_base number = if nat_lt number (2 ^ 16) then Some (Role number) else None

-- a base, which may be missing, and is `none` then: a text is its name, and anything else has to be a role's number
abbrev pub base_of : Option Data → Option Base
base_of None = Some NoRole
base_of (Some d) = option_map_or named_base (as_str d) (as_number d >>= as_u64 >>= role_base)

-- an assignment, which is an object; a missing one gives no role, and nothing is added or removed
abbrev pub assignment_of : Option Data → Option Assignment
assignment_of None = Some (record { base = NoRole; add = no_permissions; remove = no_permissions })
assignment_of (Some d) = do
  object ← only_object d
  base ← base_of (get (codes "base") object)
  add ← permissions_or_empty (get (codes "add") object)
  remove ← permissions_or_empty (get (codes "remove") object)
  Some (record { base = base; add = add; remove = remove })

-- what the value under a key states, where the object has the key; else what the rest of it says
abbrev pub by_key : {A : Type 0} → List ℕ → Data → (Option Data → Option A) → Option A → Option A
by_key key d shape rest = option_map_or (λ found. shape (Some found)) (get key d) rest

-- who has to hold permissions: `grain` and `account`, or `grant`
abbrev pub holder_of : Data → Option Node
holder_of d =
    by_key (codes "grain") d
    (λ found. grain_of found >>= λ grain. option_map (User grain) (account_of (get (codes "account") d)))
    (option_map Grant (grant_of (get (codes "grant") d)))

-- that permissions are held: a holder, and `permissions`, which have to be there
abbrev pub held_of : Data → Option Need
held_of d = do
  holder ← holder_of d
  set ← permissions_of (get (codes "permissions") d)
  Some (PermissionsHeld holder set)

-- a need: `token`, `held` or `admin`
abbrev pub need_of : Data → Option Need
need_of d =
    by_key (codes "token") d (λ found. option_map TokenValid (grant_of found))
    (by_key (codes "held") d (λ found. found >>= held_of)
    (option_map UserIsAdmin (account_of (get (codes "admin") d))))

-- a list of needs, each of which has its shape; there are none where it is missing
abbrev pub needs_of : Option Data → Option (List Need)
needs_of None = Some []
needs_of (Some d) = list_of need_of (Some d)

-- a query: a list of descriptors, none of which has a fault
abbrev pub query_of : Option Data → Option (List DescriptorData)
query_of found = found >>= λ d. result_ok (shape.query_of d)

-- an item of the site's own: `tag`, an integer from 0 to 2^64 - 1, and `item`, a number of 32 bits
abbrev pub site_of : Data → Option Offer
site_of d = do
  tag ← get (codes "tag") d >>= as_number >>= as_u64
  item ← number_of (get (codes "item") d)
  Some (Site tag item)

-- an offer: `grain` or `site`
abbrev pub offer_of : Option Data → Option Offer
offer_of found = do
  d ← found
  by_key (codes "grain") d (λ grain. option_map Grain (grain_of grain)) (get (codes "site") d >>= site_of)
