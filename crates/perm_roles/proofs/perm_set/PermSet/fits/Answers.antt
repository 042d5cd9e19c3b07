use Rattle.std.proofs.Common.{arith}
use Rattle.std.proofs.lemmas.Bool.Decides.{nat_tests}
use Rattle.perm_roles.specs.PermSet.{Has}
use Rattle.perm_roles.proofs.Bits.{same_test, shifted_out}
use Rattle.perm_roles.proofs.Sets.{always_within}
use Rattle.perm_roles.proofs.perm_set.PermSet.fits.Goals as goal

pub returns-then-count-ge64-clause-answer : goal.returns-then-count-ge64-clause-answer
returns-then-count-ge64-clause-answer c = (
  λ _ p here. let below = always_within c.args.self.now p here in omega arith,
  λ _. grind (arith, nat_tests),
)

pub returns-then-count-ge64-clause-always : goal.returns-then-count-ge64-clause-always
returns-then-count-ge64-clause-always c = always_within c.args.self.now

pub returns-else-count-ge64-clause-answer : goal.returns-else-count-ge64-clause-answer
unfolding Has
returns-else-count-ge64-clause-answer c =
    let out = shifted_out c.args.self.now.bits c.args.count in
    (λ h. out.0 ((same_test _ _).0 h), λ h. (same_test _ _).1 (out.1 h))

pub returns-else-count-ge64-clause-always : goal.returns-else-count-ge64-clause-always
returns-else-count-ge64-clause-always c = always_within c.args.self.now
