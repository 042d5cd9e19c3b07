-- The tests of this desk alone.
use Rattle.std.specs.Prelude.{◌≡◌, ◌⊎◌}
use Rattle.desk_base.specs.Terms.{AccountId, Grain, GrainId, Grant, GrantId, IsGrain, IsRootMaker, Tables}
use Rattle.share_graph.specs.declared.grants.Target.TheVariants as target

-- the account owns the grain
abbrev pub IsOwnerOf : Tables → GrainId → AccountId → Type 0
IsOwnerOf t n a = (grain : Grain) × IsGrain t n grain × (grain.owner ≡ a)

-- the account may take the grant of number g back: it owns the grain, gave first on the grant's way, or is whom the grant goes to
abbrev pub MayRevoke : Tables → AccountId → GrantId → Grant → Type 0
MayRevoke t a g grant = IsOwnerOf t grant.grain a ⊎ (IsRootMaker t g a ⊎ (grant.target ≡ target.User a))
