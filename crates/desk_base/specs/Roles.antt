-- "role": whether an assignment may be given on a grain, by its application, and the first fault of one that may not.
use Rattle.std.specs.Prelude.{◌≡◌, ◌⊎◌, length, slice_get, MatchOption, true}
use Rattle.desk_base.specs.Terms.{Assignment, ForApp, GrainId, IsWithin, Manifest, Refusal, Tables}
use Rattle.perm_roles.specs.declared.roles.Base.{Base}
use Rattle.perm_roles.specs.declared.roles.Base.TheVariants as base
use Rattle.share_graph.specs.declared.refusal.Refusal.TheVariants.{BadRole, ObsoleteRole, LongSet}

-- the base is nothing, everything, or a role that is there and still given
abbrev pub IsBaseOf : Manifest → Base → Type 0
IsBaseOf m (base.Role n) = MatchOption (slice_get m.roles n) ⊥ (λ role. role.obsolete ≡ true → ⊥)
IsBaseOf m base.NoRole = Unit {0}
IsBaseOf m base.AllAccess = Unit {0}

-- the base is a role that isn't there, or one that isn't given any more
abbrev pub HasBaseFault : Manifest → Base → Refusal → Type 0
HasBaseFault m (base.Role n) r = MatchOption (slice_get m.roles n) (r ≡ BadRole n) (λ role. (r ≡ ObsoleteRole n) × (role.obsolete ≡ true))
HasBaseFault m base.NoRole r = ⊥
HasBaseFault m base.AllAccess r = ⊥

-- what is added and what is removed are permissions of the application
pub record SetsAreShort (m : Manifest) (a : Assignment) : Type 0 where
  pub add : IsWithin a.add (length m.permissions)
  pub remove : IsWithin a.remove (length m.permissions)

-- the application gives the assignment
pub record MayGive (m : Manifest) (a : Assignment) : Type 0 where
  pub given : IsBaseOf m a.base
  pub sets : SetsAreShort m a

-- the first fault of the assignment: BadRole, ObsoleteRole, LongSet
unfoldable pub HasRoleFault : Manifest → Assignment → Refusal → Type 0
HasRoleFault m a r = HasBaseFault m a.base r ⊎ ((r ≡ LongSet) × IsBaseOf m a.base × (SetsAreShort m a → ⊥))

-- by the application of the grain, the assignment may be given; or this is its first fault
abbrev pub MayGiveOn : Tables → GrainId → Assignment → Type 0
MayGiveOn t n a = ForApp t n (λ app. MayGive app.manifest a)

abbrev pub HasRoleFaultOn : Tables → GrainId → Assignment → Refusal → Type 0
HasRoleFaultOn t n a r = ForApp t n (λ app. HasRoleFault app.manifest a r)
