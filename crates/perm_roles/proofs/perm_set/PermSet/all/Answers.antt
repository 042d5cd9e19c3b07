use Rattle.std.proofs.Common.{◌<◌, arith}
use Rattle.perm_roles.specs.PermSet.{Has}
use Rattle.perm_roles.proofs.Bits.{bit_of_ones, ones_below}
use Rattle.perm_roles.proofs.perm_set.PermSet.all.Goals as goal

pub returns-then-count-eq64 : goal.returns-then-count-eq64
unfolding Has
returns-then-count-eq64 c p = rw c.if-count-eq64.true (bit_of_ones 64 p)

pub returns : goal.returns
unfolding Has
returns c p =
    let low : c.args.count < 64 = omega arith in
    rw ones_below (bit_of_ones c.args.count p)
