-- An assignment has one answer.
use Rattle.std.proofs.Common.{◌≡◌, ℕ, List}
use Rattle.perm_roles.specs.declared.perm_set.PermSet.{PermSet}
use Rattle.perm_roles.specs.declared.roles.Role.{Role}
use Rattle.perm_roles.specs.declared.roles.Assignment.{Assignment}
use Rattle.perm_roles.specs.Roles.{IsGiven}
use Rattle.perm_roles.proofs.Sets.{same_members}

-- at most one set is given
pub one_set : (roles : List Role) (count : ℕ) (assignment : Assignment) (set other : PermSet) → IsGiven roles count assignment set → IsGiven roles count assignment other → set ≡ other
one_set roles count assignment set other given given_too =
    same_members set other (λ p. (λ h. (given_too p).1 ((given p).0 h), λ h. (given p).1 ((given_too p).0 h)))
