use Rattle.std.proofs.lemmas.Nat.{or_lt}
use Rattle.perm_roles.specs.PermSet.{Has}
use Rattle.perm_roles.proofs.Bits.{bit_of_or}
use Rattle.perm_roles.proofs.perm_set.PermSet.union.Goals as goal

pub invariant_of-result : goal.invariant_of-result
invariant_of-result c = record { in_range = or_lt 64 _ _ c.args.self.now.in_range c.args.other.now.in_range }

pub returns : goal.returns
unfolding Has
returns c p = bit_of_or _ _ p
