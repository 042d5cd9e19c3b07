use Rattle.perm_roles.specs.PermSet.{Has}
use Rattle.perm_roles.proofs.Bits.{same_test, and_is_part}
use Rattle.perm_roles.proofs.Sets.{same_members}
use Rattle.perm_roles.proofs.perm_set.PermSet.contains.Goals as goal

pub returns-clause-answer : goal.returns-clause-answer
unfolding Has
returns-clause-answer c = (
  λ h. (and_is_part _ _).0 ((same_test _ _).0 h),
  λ f. (same_test _ _).1 ((and_is_part _ _).1 f),
)

pub returns-clause-same : goal.returns-clause-same
returns-clause-same c = same_members _ _
