use Rattle.perm_roles.specs.PermSet.{Has}
use Rattle.perm_roles.proofs.Bits.{bit_of_and}
use Rattle.perm_roles.proofs.perm_set.PermSet.meet.Goals as goal

pub returns : goal.returns
unfolding Has
returns c p = bit_of_and _ _ p
