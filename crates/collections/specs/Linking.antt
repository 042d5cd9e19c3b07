-- The link by which a curator lists a grain: what its test establishes, and its refusals.
use Rattle.std.specs.Prelude.{◌≡◌, ◌⊎◌}
use Rattle.share_graph.specs.Forms.{none}
use Rattle.share_graph.specs.declared.fault.Kind.TheVariants as kind
use Rattle.share_graph.specs.declared.grants.Giver.TheVariants as giver
use Rattle.share_graph.specs.declared.refusal.Refusal.{Refusal}
use Rattle.share_graph.specs.declared.refusal.Refusal.TheVariants.{BadParent, NotGiver, Unknown}
use Rattle.collections.specs.Members.{IsBearers}
use Rattle.collections.specs.Terms.{AccountId, Grant, GrantId, IsGrant, Tables}

-- the grant of the number goes to whoever bears its token, and the account gave it
pub record IsLinkOf (t : Tables) (a : AccountId) (g : GrantId) (link : Grant) : Type 0 where
  pub is_row : IsGrant t g link
  pub bearers : IsBearers link
  pub given : link.giver ≡ giver.Account a

-- no grant has the number, or the grant goes to no bearer, or the account didn't give it
abbrev pub IsNoLinkOf : Tables → AccountId → GrantId → Refusal → Type 0
IsNoLinkOf t a g r =
    none (IsGrant t g) (Unknown kind.Grant g.0) r
    ⊎ (((link : Grant) × (r ≡ BadParent g) × IsGrant t g link × (IsBearers link → ⊥))
    ⊎ ((link : Grant) × (r ≡ NotGiver g) × IsGrant t g link × IsBearers link × (link.giver ≡ giver.Account a → ⊥)))
