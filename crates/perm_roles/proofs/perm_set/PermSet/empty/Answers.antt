use Rattle.std.proofs.Common.{refl, arith}
use Rattle.std.proofs.lemmas.Nat.Bits.{bit_at-zero}
use Rattle.perm_roles.specs.PermSet.{Has, bits_of, no_permissions}
use Rattle.perm_roles.proofs.Sets.{same_word}
use Rattle.perm_roles.proofs.perm_set.PermSet.empty.Goals as goal

pub returns-clause-value : goal.returns-clause-value
unfolding bits_of no_permissions
returns-clause-value c = same_word _ _ refl

pub returns-clause-members : goal.returns-clause-members
unfolding Has
returns-clause-members c p here = let none = bit_at-zero p in omega arith
