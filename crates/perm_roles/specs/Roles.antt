-- What an assignment of permissions gives.
use Rattle.std.specs.Prelude.{◌⊎◌, ◌↔◌, ◌<◌, ◌≤◌, ℕ, List, length, slice_get, IsSomeAnd}
use Rattle.std.specs.List.{All, find}
use Rattle.perm_roles.specs.PermSet.{Has, IsWithin}
use Rattle.perm_roles.specs.declared.perm_set.PermSet.{PermSet}
use Rattle.perm_roles.specs.declared.roles.Role.{Role}
use Rattle.perm_roles.specs.declared.roles.Assignment.{Assignment}
use Rattle.perm_roles.specs.declared.roles.Base.{Base}
use Rattle.perm_roles.specs.declared.roles.Base.TheVariants as base

-- the position is in the set of the first default role
abbrev pub IsInDefault : List Role → ℕ → Type 0
IsInDefault roles p = IsSomeAnd (find (λ role. role.default) roles) (λ role. Has role.perms p)

-- the position is in the base: the default role's set or nothing, every position below the count, or the set of the role that is named
abbrev pub IsInBase : List Role → ℕ → Base → ℕ → Type 0
IsInBase roles count base.NoRole p = IsInDefault roles p
IsInBase roles count base.AllAccess p = p < count
IsInBase roles count (base.Role n) p = IsSomeAnd (slice_get roles n) (λ role. Has role.perms p)

-- the assignment gives the permission at the position: it is in the base or added, and it is not removed
abbrev pub GivesPermission : List Role → ℕ → Assignment → ℕ → Type 0
GivesPermission roles count assignment p = (IsInBase roles count assignment.base p ⊎ Has assignment.add p) × ¬ Has assignment.remove p

-- the set has the permissions that the assignment gives, and no other
abbrev pub IsGiven : List Role → ℕ → Assignment → PermSet → Type 0
IsGiven roles count assignment set = (p : ℕ) → Has set p ↔ GivesPermission roles count assignment p

-- each set that is handed in has only positions below the count
pub record HasFittingSets (roles : List Role) (count : ℕ) (assignment : Assignment) : Type 0 where
  pub roles_fit : All (λ role. IsWithin role.perms count) roles
  pub add_fits : IsWithin assignment.add count
  pub remove_fits : IsWithin assignment.remove count

-- a role that the base names is in the list
abbrev pub IsInRoles : List Role → Base → Type 0
IsInRoles roles (base.Role n) = n < length roles
IsInRoles roles _ = Unit {0}

-- the roles, the count and the assignment have no fault
pub record HasNoFault (roles : List Role) (count : ℕ) (assignment : Assignment) : Type 0 where
  pub few : count ≤ 64
  pub sets_fit : HasFittingSets roles count assignment
  pub listed : IsInRoles roles assignment.base
