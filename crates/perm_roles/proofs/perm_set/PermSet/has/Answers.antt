use Rattle.std.proofs.Common.{◌∙◌, sym}
use Rattle.std.proofs.lemmas.Nat.Bits.{shr_and_one}
use Rattle.perm_roles.specs.PermSet.{Has}
use Rattle.perm_roles.proofs.Bits.{same_test}
use Rattle.perm_roles.proofs.perm_set.PermSet.has.Goals as goal

pub returns : goal.returns
unfolding Has
returns c =
    let bit = shr_and_one c.args.self.now.bits c.args.pos in
    (λ h. sym bit ∙ (same_test _ _).0 h, λ h. (same_test _ _).1 (bit ∙ h))
