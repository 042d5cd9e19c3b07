-- The row of a grant, each choice with the numbers of what can stand there.
use Rattle.std.specs.Prelude.{ℕ, ◌≤◌, nat_lt, length, Bool, false, List, [], ◌∷◌, Option, Some, None}
use Rattle.std.specs.Int.{w16, w32, w64}
use Rattle.host_base.specs.declared.digest.Digest.{Digest}
use Rattle.host_base.specs.declared.ids.AccountId.{AccountId}
use Rattle.host_base.specs.declared.ids.GrainId.{GrainId}
use Rattle.host_base.specs.declared.ids.GrantId.{GrantId}
use Rattle.perm_roles.specs.PermSet.{no_permissions}
use Rattle.perm_roles.specs.declared.perm_set.PermSet.{PermSet}
use Rattle.perm_roles.specs.declared.roles.Assignment.{Assignment}
use Rattle.perm_roles.specs.declared.roles.Base.{Base}
use Rattle.perm_roles.specs.declared.roles.Base.TheVariants as base
use Rattle.share_graph.specs.Expiry.{IsExpiry}
use Rattle.share_graph.specs.declared.facts.Node.{Node}
use Rattle.share_graph.specs.declared.facts.Node.TheVariants as node
use Rattle.share_graph.specs.declared.grants.Giver.{Giver}
use Rattle.share_graph.specs.declared.grants.Giver.TheVariants as giver
use Rattle.share_graph.specs.declared.grants.Target.{Target}
use Rattle.share_graph.specs.declared.grants.Target.TheVariants as target
use Rattle.share_graph.specs.declared.grants.Need.{Need}
use Rattle.share_graph.specs.declared.grants.Need.TheVariants as need
use Rattle.share_graph.specs.declared.grants.Grant.{Grant}
use Rattle.row_formats.specs.Format.{Format, number, digest, flag, always, ◌⊗◌, made, only, choice, list, versions}
use Rattle.row_formats.specs.Sets.{set}
use Rattle.row_codec.specs.Ids.{account_id, grain_id, grant_id}

-- ---- where it comes from

-- the number of each giver
abbrev pub giver_number : Giver → ℕ
giver_number (giver.Account a) = 1
giver_number (giver.Grant g) = 2
giver_number (giver.Site by tag item) = 3

-- the account of a giver, with anything for the others
abbrev pub giver_account : Giver → AccountId
giver_account (giver.Account a) = a
giver_account _ = record { 0 = 0 }

-- the grant of a giver, with anything for the others
abbrev pub giver_grant : Giver → GrantId
giver_grant (giver.Grant g) = g
giver_grant _ = record { 0 = 0 }

-- the account, the tag and the item of a giver, with anything for the others
abbrev pub giver_site : Giver → AccountId × (ℕ × ℕ)
giver_site (giver.Site by tag item) = (by, (tag, item))
giver_site _ = (record { 0 = 0 }, (0, 0))

-- 1 an account; 2 a grant; 3 the site: by whom, the tag, the item
abbrev pub givers : List (Format Giver)
givers =
    made (λ a. giver.Account a) giver_account account_id
    ∷ made (λ g. giver.Grant g) giver_grant grant_id
    ∷ made (λ s. giver.Site s.0 s.1.0 s.1.1) giver_site (account_id ⊗ number w64 ⊗ number w32)
    ∷ []

-- a giver: its number, and its parts
abbrev pub giver_format : Format Giver
giver_format = choice 1 giver_number givers

-- ---- whom it goes to

-- the number of each target
abbrev pub target_number : Target → ℕ
target_number (target.Bearer b) = 1
target_number (target.User a) = 2
target_number (target.Claim n) = 3
target_number (target.Grain n) = 4

-- whether a bearer's grant is for sharing, with anything for the others
abbrev pub target_bearer : Target → Bool
target_bearer (target.Bearer b) = b
target_bearer _ = false

-- the account of a target, with anything for the others
abbrev pub target_user : Target → AccountId
target_user (target.User a) = a
target_user _ = record { 0 = 0 }

-- the grain of a target, with anything for the others
abbrev pub target_grain : Target → GrainId
target_grain (target.Claim n) = n
target_grain (target.Grain n) = n
target_grain _ = record { 0 = 0 }

-- 1 a bearer: for sharing; 2 an account; 3 a grain that may claim it; 4 a grain that did
abbrev pub targets : List (Format Target)
targets =
    made (λ b. target.Bearer b) target_bearer flag
    ∷ made (λ a. target.User a) target_user account_id
    ∷ made (λ n. target.Claim n) target_grain grain_id
    ∷ made (λ n. target.Grain n) target_grain grain_id
    ∷ []

-- a target: its number, and its part
abbrev pub target_format : Format Target
target_format = choice 1 target_number targets

-- ---- what it gives

-- the number of each base
abbrev pub base_number : Base → ℕ
base_number base.NoRole = 0
base_number base.AllAccess = 1
base_number (base.Role n) = 2

-- the role of a base, with anything for the others
abbrev pub base_role : Base → ℕ
base_role (base.Role n) = n
base_role _ = 0

-- 0 no role; 1 all access; 2 a role: its place
abbrev pub bases : List (Format Base)
bases =
    always base.NoRole ∷ always base.AllAccess ∷ made (λ n. base.Role n) base_role (number w16) ∷ []

-- a base: its number, and its part
abbrev pub base_format : Format Base
base_format = choice 0 base_number bases

-- an assignment: the base, what is added, what is removed
abbrev pub assignment : Format Assignment
assignment = made
    (λ f. record { base = f.0; add = f.1.0; remove = f.1.1 })
    (λ a. (a.base, (a.add, a.remove)))
    (base_format ⊗ set ⊗ set)

-- ---- what has to hold

-- the number of each holder
abbrev pub node_number : Node → ℕ
node_number (node.User n a) = 1
node_number (node.Grant g) = 2

-- the grain and the account of a holder, with anything for a grant
abbrev pub node_user : Node → GrainId × AccountId
node_user (node.User n a) = (n, a)
node_user _ = (record { 0 = 0 }, record { 0 = 0 })

-- the grant of a holder, with anything for an account
abbrev pub node_grant : Node → GrantId
node_grant (node.Grant g) = g
node_grant _ = record { 0 = 0 }

-- 1 a grain and an account; 2 a grant
abbrev pub nodes : List (Format Node)
nodes =
    made (λ u. node.User u.0 u.1) node_user (grain_id ⊗ account_id)
    ∷ made (λ g. node.Grant g) node_grant grant_id
    ∷ []

-- a holder: its number, and its parts
abbrev pub node_format : Format Node
node_format = choice 1 node_number nodes

-- the number of each need
abbrev pub need_number : Need → ℕ
need_number (need.TokenValid g) = 1
need_number (need.PermissionsHeld n s) = 2
need_number (need.UserIsAdmin a) = 3

-- the grant of a need, with anything for the others
abbrev pub need_token : Need → GrantId
need_token (need.TokenValid g) = g
need_token _ = record { 0 = 0 }

-- the holder and the set of a need, with anything for the others
abbrev pub need_held : Need → Node × PermSet
need_held (need.PermissionsHeld n s) = (n, s)
need_held _ = (node.Grant (record { 0 = 0 }), no_permissions)

-- the account of a need, with anything for the others
abbrev pub need_admin : Need → AccountId
need_admin (need.UserIsAdmin a) = a
need_admin _ = record { 0 = 0 }

-- 1 a grant; 2 a holder and a set; 3 an account
abbrev pub needs : List (Format Need)
needs =
    made (λ g. need.TokenValid g) need_token grant_id
    ∷ made (λ h. need.PermissionsHeld h.0 h.1) need_held (node_format ⊗ set)
    ∷ made (λ a. need.UserIsAdmin a) need_admin account_id
    ∷ []

-- a need: its number, and its parts
abbrev pub need_format : Format Need
need_format = choice 1 need_number needs

-- ---- the row

-- 1 where there is a token, and 0 else
abbrev pub token_number : Option Digest → ℕ
token_number None = 0
token_number (Some d) = 1

-- the digest of a token, with anything where there is none
abbrev pub token_digest : Option Digest → Digest
token_digest (Some d) = d
token_digest _ = record { 0 = [] }

-- 0 none; 1 a digest
abbrev pub tokens : List (Format (Option Digest))
tokens =
    always None ∷ made (λ d. Some d) token_digest digest ∷ []

-- a token: whether there is one, and its digest
abbrev pub token : Format (Option Digest)
token = choice 0 token_number tokens

-- two bytes can count the needs of a grant, and its expiry, if it has one, is above 0
pub record IsCountableGrant (g : Grant) : Type 0 where
  pub needs : length g.needs ≤ 65535
  pub ends : IsExpiry g.expires

-- the fields of a grant without an expiry: grain, giver, target, assignment, needs, token, revoked
abbrev pub without_expiry : ℕ → Format Grant
without_expiry num = made
    (λ f. record { num = record { 0 = num }; grain = f.0; giver = f.1.0; target = f.1.1.0; assignment = f.1.1.1.0; needs = f.1.1.1.1.0; digest = f.1.1.1.1.1.0; revoked = f.1.1.1.1.1.1; expires = None })
    (λ g. (g.grain, (g.giver, (g.target, (g.assignment, (g.needs, (g.digest, g.revoked)))))))
    (grain_id ⊗ giver_format ⊗ target_format ⊗ assignment ⊗ list 65535 need_format ⊗ token ⊗ flag)

-- an expiry, which is above 0: eight bytes
abbrev pub expiry : Format ℕ
expiry = only (λ end. nat_lt 0 end) (number w64)

-- the moment of an expiry, with anything where there is none
abbrev pub expiry_moment : Option ℕ → ℕ
expiry_moment (Some end) = end
expiry_moment _ = 0

-- the fields of a grant with an expiry: those of one without, and the expiry
abbrev pub with_expiry : ℕ → Format Grant
with_expiry num = made
    (λ f. record f.0 { expires = Some f.1 })
    (λ g. (record g { expires = None }, expiry_moment g.expires))
    (without_expiry num ⊗ expiry)

-- 2 where there is an expiry, and 1 else
abbrev pub expiry_version : Option ℕ → ℕ
expiry_version None = 1
expiry_version (Some end) = 2

-- the version in which a grant is written
abbrev pub grant_version : Grant → ℕ
grant_version g = expiry_version g.expires

-- a grant: 1 and the fields without an expiry, or 2 and those with one
abbrev pub grant : ℕ → Format Grant
grant num = versions grant_version (without_expiry num ∷ with_expiry num ∷ [])
