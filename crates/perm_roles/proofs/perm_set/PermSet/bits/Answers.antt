use Rattle.std.proofs.Common.{refl}
use Rattle.perm_roles.specs.PermSet.{Has, bits_of}
use Rattle.perm_roles.proofs.perm_set.PermSet.bits.Goals as goal

pub returns-clause-word : goal.returns-clause-word
unfolding bits_of
returns-clause-word c = refl

pub returns-clause-members : goal.returns-clause-members
unfolding Has
returns-clause-members c p = (λ h. h, λ h. h)
