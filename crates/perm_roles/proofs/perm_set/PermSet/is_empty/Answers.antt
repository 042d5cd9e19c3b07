use Rattle.perm_roles.specs.PermSet.{Has}
use Rattle.perm_roles.proofs.Bits.{same_test, no_ones}
use Rattle.perm_roles.proofs.perm_set.PermSet.is_empty.Goals as goal

pub returns : goal.returns
unfolding Has
returns c = (
  λ h. (no_ones c.args.self.now.bits).0 ((same_test _ _).0 h),
  λ f. (same_test _ _).1 ((no_ones c.args.self.now.bits).1 f),
)
