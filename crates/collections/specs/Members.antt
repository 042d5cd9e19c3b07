-- A collection: a grain whose members reach the grains that a curator lists in it, each by a link of the curator's. A member has a share of
-- the listed grain from the curator, which asks that the link holds entry, and that the member holds entry on the collection.
use Rattle.std.specs.Prelude.{◌≡◌, ◌↔◌, ◌<◌, Bool, false, List, [], ◌∷◌, None, Contains, AllPairs}
use Rattle.perm_roles.specs.PermSet.{no_permissions}
use Rattle.share_graph.specs.declared.facts.Fact.TheVariants.{Open}
use Rattle.share_graph.specs.declared.facts.Node.TheVariants as node
use Rattle.share_graph.specs.declared.grants.Need.TheVariants as need
use Rattle.share_graph.specs.declared.grants.Target.TheVariants as target
use Rattle.collections.specs.Terms.{AccountId, Caller, Fact, Follows, GrainId, Grant, GrantId, Holds, IsCaller, IsGrant, Need, node_of, secret_of, Account, State, Tables}

-- the grant goes to whoever bears its token
abbrev pub IsBearers : Grant → Type 0
IsBearers link = (for_sharing : Bool) × (link.target ≡ target.Bearer for_sharing)

-- the needs of a member's share: of the link, and of the member on the collection
abbrev pub member_needs : GrainId → GrantId → AccountId → List Need
member_needs c g u = need.TokenValid g ∷ need.PermissionsHeld (node.User c u) no_permissions ∷ []

-- The share is the curator's to a member: as the link gives, with these needs, and no expiry.
pub record IsMemberShare (c : GrainId) (g : GrantId) (link : Grant) (u : AccountId) (share : Grant) : Type 0 where
  pub giver : share.giver ≡ link.giver
  pub grain : share.grain ≡ link.grain
  pub target : share.target ≡ target.User u
  pub assignment : share.assignment ≡ link.assignment
  pub needs : share.needs ≡ member_needs c g u
  pub expires : share.expires ≡ None

-- the account has such a share that isn't revoked
abbrev pub HasShare : Tables → GrainId → GrantId → Grant → AccountId → Type 0
HasShare t c g link u = (h : GrantId) × ((share : Grant) × IsGrant t h share × IsMemberShare c g link u share × (share.revoked ≡ false))

-- the account is owed a share: it isn't the curator, holds entry on the collection, and has no such share
abbrev pub IsOwed : Tables → GrainId → GrantId → Grant → AccountId → AccountId → Type 0
IsOwed t c g link curator u = (u ≡ curator → ⊥) × Holds t (node.User c u) Open × (HasShare t c g link u → ⊥)

-- THE PLAN of a collection: by number, the accounts that are owed a share.
pub record IsPlan (t : Tables) (c : GrainId) (g : GrantId) (link : Grant) (curator : AccountId) (plan : List AccountId) : Type 0 where
  pub exact : (u : AccountId) → Contains plan u ↔ IsOwed t c g link curator u
  pub ascend : AllPairs (λ (a : AccountId) (b : AccountId). a.0 < b.0) plan

-- the same for a caller, who is the curator
abbrev pub IsPlanFor : State → Caller → GrainId → GrantId → List AccountId → Type 0
IsPlanFor s who c g plan =
    (curator : Account) × IsCaller s (secret_of who) curator
    × ((link : Grant) × IsGrant s.tables g link × IsPlan s.tables c g link curator.num plan)

-- the grant passes the fact on to its node
abbrev pub Passes : Tables → GrantId → Fact → Type 0
Passes t h fact = (grant : Grant) × IsGrant t h grant × Follows t (Holds t) h grant (node_of h grant) fact

-- THE LAW OF A MEMBER'S SHARE. While it isn't revoked, it passes on exactly what the link holds, and that exactly while the member holds
-- entry on the collection.
abbrev pub PassesAsMember : Tables → Type 0
PassesAsMember t = (c : GrainId) (g : GrantId) (link : Grant) (u : AccountId) (h : GrantId) (share : Grant) (fact : Fact)
    → IsGrant t g link → IsBearers link → IsGrant t h share → IsMemberShare c g link u share → share.revoked ≡ false
    → Passes t h fact ↔ (Holds t (node.Grant g) fact × Holds t (node.User c u) Open)
