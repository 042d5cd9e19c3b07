use Rattle.std.specs.Prelude.{◌≡◌, ◌⊎◌, ℕ, ◌<◌, ◌↔◌, List, Some, None, length, Contains, MatchOption, false}
use Rattle.std.specs.List.Sorted.{IsStrictlyIncreasing}
use Rattle.host_base.specs.declared.ids.GrainId.{GrainId}
use Rattle.host_base.specs.declared.ids.GrantId.{GrantId}
use Rattle.perm_roles.specs.PermSet.{Has}
use Rattle.share_graph.specs.declared.facts.Fact.{Fact}
use Rattle.share_graph.specs.declared.facts.Fact.TheVariants.{Open, Perm}
use Rattle.share_graph.specs.declared.facts.Node.{Node}
use Rattle.share_graph.specs.declared.facts.Node.TheVariants as node
use Rattle.share_graph.specs.declared.grants.Grant.{Grant}
use Rattle.share_graph.specs.declared.grants.Need.{Need}
use Rattle.share_graph.specs.declared.grants.Need.TheVariants as need
use Rattle.share_graph.specs.declared.rows.App.{App}
use Rattle.share_graph.specs.declared.rows.Grain.{Grain}
use Rattle.share_graph.specs.declared.state.Tables.{Tables}
use Rattle.share_graph.specs.Expiry.{Lasts}
use Rattle.share_graph.specs.Rows.{IsApp, IsGrain, IsGrant, IsEnabled, IsAdmin, IsKept}
use Rattle.share_graph.specs.Nodes.{node_of, source_of, MayReceive, Gives}

-- The grain is there, with its application, and not in the trash, and its owner is enabled.
pub record Owns (t : Tables) (n : GrainId) (grain : Grain) (app : App) : Type 0 where
  pub is_row : IsGrain t n grain
  pub of_app : IsApp t grain.app app
  pub kept : grain.trashed ≡ false
  pub enabled : IsEnabled t grain.owner

-- entry, or a position that the application has
abbrev pub IsFactOf : App → Fact → Type 0
IsFactOf app Open = Unit {0}
IsFactOf app (Perm p) = p < length app.manifest.permissions

-- The grant is there, not revoked, and hasn't ended by itself.
pub record IsLive (t : Tables) (g : GrantId) (grant : Grant) : Type 0 where
  pub is_row : IsGrant t g grant
  pub live : grant.revoked ≡ false
  pub lasts : Lasts t.moment grant.expires

-- The grant passes the fact on, where its source holds it: an account that it goes to is enabled, and it lets the fact
-- through.
pub record LetsThrough (t : Tables) (g : GrantId) (grant : Grant) (fact : Fact) : Type 0 where
  pub is_live : IsLive t g grant
  pub received : MayReceive t grant.target
  pub gives : Gives t grant fact

-- A grant of the site gives entry while its grain isn't in the trash.
pub record IsOpenSite (t : Tables) (g : GrantId) (grant : Grant) : Type 0 where
  pub is_live : IsLive t g grant
  pub kept : IsKept t grant.grain

-- the need asks that the node holds the fact
abbrev pub Asks : Need → Node → Fact → Type 0
Asks (need.TokenValid h) at fact = (at ≡ node.Grant h) × (fact ≡ Open)
Asks (need.PermissionsHeld holder set) at Open = at ≡ holder
Asks (need.PermissionsHeld holder set) at (Perm p) = (at ≡ holder) × Has set p
Asks (need.UserIsAdmin a) at fact = ⊥

-- what the need asks of the accounts alone
abbrev pub AsksNow : Tables → Need → Type 0
AsksNow t (need.UserIsAdmin a) = IsAdmin t a
AsksNow t (need.TokenValid h) = Unit {0}
AsksNow t (need.PermissionsHeld holder set) = Unit {0}

-- A derivation that the node holds the fact: a finite tree. An owner holds entry and every permission on a grain. A grant
-- passes on what its source holds, while its needs are met. A grant of the site gives entry, while its needs are met.
pub data Derivation (t : Tables) : Node → Fact → Type 0 where
  own : {n : GrainId} {grain : Grain} {app : App} {fact : Fact} → Owns t n grain app → IsFactOf app fact
      → Derivation t (node.User n grain.owner) fact
  via : {g : GrantId} {grant : Grant} {from : Node} {fact : Fact} → LetsThrough t g grant fact
      → source_of grant ≡ Some from
      → Derivation t from fact
      → ((q : Need) → Contains grant.needs q → AsksNow t q)
      → ((q : Need) → Contains grant.needs q → (at : Node) (asked : Fact) → Asks q at asked → Derivation t at asked)
      → Derivation t (node_of g grant) fact
  site : {g : GrantId} {grant : Grant} → IsOpenSite t g grant
      → source_of grant ≡ None
      → ((q : Need) → Contains grant.needs q → AsksNow t q)
      → ((q : Need) → Contains grant.needs q → (at : Node) (asked : Fact) → Asks q at asked → Derivation t at asked)
      → Derivation t (node.Grant g) Open

-- some step of the derivation, those for needs included, is by the grant
abbrev pub Uses : {t : Tables} {at : Node} {fact : Fact} → Derivation t at fact → GrantId → Type 0
Uses (own o is) h = ⊥
Uses (via {g = g} {grant = grant} p s d now needs) h = (g ≡ h) ⊎ Uses d h
    ⊎ ((q : Need) × (c : Contains grant.needs q) × (at : Node) × (asked : Fact) × (a : Asks q at asked) × Uses (needs q c at asked a) h)
Uses (site {g = g} {grant = grant} o s now needs) h = (g ≡ h)
    ⊎ ((q : Need) × (c : Contains grant.needs q) × (at : Node) × (asked : Fact) × (a : Asks q at asked) × Uses (needs q c at asked a) h)

-- The node holds the fact: there is a derivation of it.
abbrev pub Holds : Tables → Node → Fact → Type 0
Holds t at fact = Derivation t at fact

-- some derivation of the fact does without the grant
abbrev pub HoldsWithout : Tables → GrantId → Node → Fact → Type 0
HoldsWithout t g at fact = (d : Derivation t at fact) × ¬ Uses d g

-- What a node that holds entry holds: the positions of its permissions, ascending.
pub record IsAccess (t : Tables) (at : Node) (held : List ℕ) : Type 0 where
  pub entry : Holds t at Open
  pub ascends : IsStrictlyIncreasing held
  pub exact : (p : ℕ) → Contains held p ↔ Holds t at (Perm p)

-- by what the relation holds, the need is met
abbrev pub IsMetBy : Tables → (Node → Fact → Type 0) → Need → Type 0
IsMetBy t R q = AsksNow t q × ((at : Node) (asked : Fact) → Asks q at asked → R at asked)

-- the need is met
abbrev pub IsMet : Tables → Need → Type 0
IsMet t q = IsMetBy t (Holds t) q

-- One step of the rules by a grant, from facts that are held already: what its source holds goes to its node, as far as it
-- passes it on; a grant of the site gives itself entry.
pub record Follows (t : Tables) (R : Node → Fact → Type 0) (g : GrantId) (grant : Grant) (at : Node) (fact : Fact) : Type 0 where
  pub met : (q : Need) → Contains grant.needs q → IsMetBy t R q
  pub source : MatchOption (source_of grant) (IsOpenSite t g grant × (at ≡ node.Grant g) × (fact ≡ Open)) (λ from. LetsThrough t g grant fact × (at ≡ node_of g grant) × R from fact)
