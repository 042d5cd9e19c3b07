-- An aid for the proof: how the members of a collection are looked through.
use Rattle.std.specs.Prelude.{◌≡◌, ◌↔◌, ◌<◌, List, Option, Some, None, false, Contains, AllPairs}
use Rattle.access_report.specs.declared.entry.Entry.{Entry}
use Rattle.share_graph.specs.declared.facts.Fact.TheVariants.{Open}
use Rattle.share_graph.specs.declared.facts.Node.TheVariants as node
use Rattle.collections.specs.Members.{IsMemberShare}
use Rattle.collections.specs.Terms.{AccountId, GrainId, Grant, GrantId, Holds, IsGrant, Node, Tables}

-- the account that a node is of, if it is an account's
abbrev pub account_at : Node → Option AccountId
account_at (node.User n a) = Some a
account_at (node.Grant g) = None

-- the account that holds the entry, if one does
abbrev pub member_of : Entry → Option AccountId
member_of entry = account_at entry.node

-- The accounts that hold entry on the grain, by number.
pub record AreMembers (t : Tables) (c : GrainId) (members : List AccountId) : Type 0 where
  pub exact : (u : AccountId) → Contains members u ↔ Holds t (node.User c u) Open
  pub ascend : AllPairs (λ (a : AccountId) (b : AccountId). a.0 < b.0) members

-- The grant of the number is such a share that isn't revoked.
pub record IsShareAt (t : Tables) (c : GrainId) (g : GrantId) (link : Grant) (u : AccountId) (num : GrantId) : Type 0 where
  pub share : Grant
  pub is_row : IsGrant t num share
  pub is : IsMemberShare c g link u share
  pub live : share.revoked ≡ false
