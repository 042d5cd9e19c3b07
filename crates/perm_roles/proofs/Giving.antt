-- What an assignment gives is below the number of permissions.
use Rattle.std.proofs.Common.{ℕ, zero, suc, ◌<◌, Bool, true, false, cond, List, [], ◌∷◌, All, slice_get, IsSomeAnd, Option, Some, inl, inr}
use Rattle.std.specs.List.{find}
use Rattle.std.proofs.lemmas.List.Elements.{All-head, All-tail}
use Rattle.perm_roles.specs.declared.roles.Role.{Role}
use Rattle.perm_roles.specs.declared.roles.Base.{Base}
use Rattle.perm_roles.specs.declared.roles.Base.TheVariants as base
use Rattle.perm_roles.specs.declared.roles.Assignment.{Assignment}
use Rattle.perm_roles.specs.PermSet.{Has, IsWithin}
use Rattle.perm_roles.specs.Roles.{IsInDefault, IsInBase, GivesPermission, HasFittingSets}

found_within : (b : Bool) (role : Role) (found : Option Role) (count p : ℕ) → IsWithin role.perms count → (IsSomeAnd found (λ one. Has one.perms p) → p < count) → IsSomeAnd (cond b (Some role) found) (λ one. Has one.perms p) → p < count
found_within true role found count p fit later here = fit p here
found_within false role found count p fit later here = later here

default_within : (roles : List Role) (count p : ℕ) → All (λ role. IsWithin role.perms count) roles → IsInDefault roles p → p < count
default_within [] count p fit here = absurd here
default_within (role ∷ roles) count p fit here =
    found_within role.default role (find (λ one. one.default) roles) count p
    (All-head (λ one. IsWithin one.perms count) role roles fit)
    (default_within roles count p (All-tail (λ one. IsWithin one.perms count) role roles fit)) here

role_within : (roles : List Role) (n count p : ℕ) → All (λ role. IsWithin role.perms count) roles → IsSomeAnd (slice_get roles n) (λ role. Has role.perms p) → p < count
role_within [] n count p fit here = absurd here
role_within (role ∷ roles) zero count p fit here = All-head (λ role. IsWithin role.perms count) role roles fit p here
role_within (role ∷ roles) (suc n) count p fit here =
    role_within roles n count p (All-tail (λ role. IsWithin role.perms count) role roles fit) here

pub base_within : (roles : List Role) (count : ℕ) (base : Base) (p : ℕ) → All (λ role. IsWithin role.perms count) roles → IsInBase roles count base p → p < count
base_within roles count base.NoRole p fit here = default_within roles count p fit here
base_within roles count base.AllAccess p fit here = here
base_within roles count (base.Role n) p fit here = role_within roles n count p fit here

-- where the sets fit, what is given is below the count
pub Gives-within : (roles : List Role) (count : ℕ) (assignment : Assignment) → HasFittingSets roles count assignment → (p : ℕ) → GivesPermission roles count assignment p → p < count
Gives-within roles count assignment fit p given =
    elim given.0 [
      | inl here ↦ base_within roles count assignment.base p fit.roles_fit here
      | inr here ↦ fit.add_fits p here
    ]
