use Rattle.std.proofs.Common.{arith}
use Rattle.perm_roles.specs.PermSet.{Has}
use Rattle.perm_roles.proofs.Bits.{bit_of_and_not}
use Rattle.perm_roles.proofs.perm_set.PermSet.minus.Goals as goal

pub returns : goal.returns
unfolding Has
returns c p = bit_of_and_not _ _ p (omega arith) (omega arith)
