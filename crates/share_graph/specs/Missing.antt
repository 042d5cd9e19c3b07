-- The first step that is missing where a node holds no entry.
use Rattle.std.specs.Prelude.{◌≡◌, ◌<◌, ◌≤◌, ℕ, List, Option, Some, None, Contains, slice_get, true}
use Rattle.host_base.specs.declared.ids.AccountId.{AccountId}
use Rattle.host_base.specs.declared.ids.GrainId.{GrainId}
use Rattle.host_base.specs.declared.ids.GrantId.{GrantId}
use Rattle.host_base.specs.declared.verdict.Denial.{Denial}
use Rattle.host_base.specs.declared.verdict.Denial.TheVariants.{GrainTrashed, AccountDisabled, Revoked, Expired, Unmet, SourceLost, NoShare}
use Rattle.share_graph.specs.declared.facts.Fact.TheVariants.{Open}
use Rattle.share_graph.specs.declared.facts.Node.{Node}
use Rattle.share_graph.specs.declared.facts.Node.TheVariants as node
use Rattle.share_graph.specs.declared.grants.Grant.{Grant}
use Rattle.share_graph.specs.declared.grants.Need.{Need}
use Rattle.share_graph.specs.declared.state.Tables.{Tables}
use Rattle.share_graph.specs.Derivation.{Holds, IsMet}
use Rattle.share_graph.specs.Expiry.{Lasts}
use Rattle.share_graph.specs.Forms.{answers, when◌then◌else◌, unless◌then◌else◌, must◌or◌then◌}
use Rattle.share_graph.specs.Known.{HasAccount, HasGrain}
use Rattle.share_graph.specs.Parents.{IsOwnNode}
use Rattle.share_graph.specs.Rows.{IsGrant, IsKept, IsEnabled}

-- The node is one that can hold facts: its grain and its account are there, or its grant, which goes to no account.
abbrev pub IsNode : Tables → Node → Type 0
IsNode t (node.User n a) = HasGrain t n × HasAccount t a
IsNode t (node.Grant g) = IsOwnNode t g

-- every need is met
abbrev pub AreMet : Tables → List Need → Type 0
AreMet t needs = (need : Need) → Contains needs need → IsMet t need

-- The need at the index, from 0, is the first that isn't met.
pub record IsFirstUnmet (t : Tables) (needs : List Need) (i : ℕ) : Type 0 where
  pub need : Need
  pub there : slice_get needs i ≡ Some need
  pub unmet : ¬ IsMet t need
  pub earlier : (k : ℕ) (other : Need) → k < i → slice_get needs k ≡ Some other → IsMet t other

-- the answer that a need of the grant is unmet, the first one
abbrev pub IsUnmet : Tables → GrantId → Grant → Option Denial → Type 0
IsUnmet t g grant a = (i : ℕ) × (a ≡ Some (Unmet g i)) × IsFirstUnmet t grant.needs i

-- the answer that the grant has ended, with its expiry
abbrev pub HasEnded : Tables → GrantId → Grant → Option Denial → Type 0
HasEnded t g grant a = (end : ℕ) × (a ≡ Some (Expired g end)) × (grant.expires ≡ Some end) × (end ≤ t.moment)

-- for an account on a grain: the grain is in the trash, the account is disabled, or no derivation leads to it
abbrev pub UserMissing : Tables → GrainId → AccountId → Option Denial → Type 0
UserMissing t n a =
    when Holds t (node.User n a) Open then None else
    unless IsKept t n then Some (GrainTrashed n) else
    unless IsEnabled t a then Some (AccountDisabled a) else
    answers (Some (NoShare n a))

-- for a grant: its grain is in the trash, it is revoked, it has ended, a need of it is unmet, or what it was given from is lost
abbrev pub GrantMissing : Tables → GrantId → Grant → Option Denial → Type 0
GrantMissing t g grant =
    when Holds t (node.Grant g) Open then None else
    unless IsKept t grant.grain then Some (GrainTrashed grant.grain) else
    when grant.revoked ≡ true then Some (Revoked g) else
    must Lasts t.moment grant.expires or HasEnded t g grant then
    must AreMet t grant.needs or IsUnmet t g grant then
    answers (Some (SourceLost g))

-- THE FIRST MISSING STEP: nothing where the node holds entry, else the first step that is missing.
abbrev pub IsMissing : Tables → Node → Option Denial → Type 0
IsMissing t (node.User n a) answer = UserMissing t n a answer
IsMissing t (node.Grant g) answer = (grant : Grant) × IsGrant t g grant × GrantMissing t g grant answer
