use Rattle.std.proofs.Common.{◌<◌, ◌≤◌, arith}
use Rattle.std.proofs.lemmas.Bool.Decides.{nat_tests}
use Rattle.perm_roles.proofs.Sets.{always_within}
use Rattle.access_report.proofs.lawful.has.Goals as goal

pub returns-else-pos-lt64 : goal.returns-else-pos-lt64
returns-else-pos-lt64 c = (
  λ h. absurd (grind (arith, nat_tests)),
  λ here. (let below : c.args.pos < 64 = always_within c.args.set.now c.args.pos here in let above : 64 ≤ c.args.pos = c.if-pos-lt64.false in absurd (omega arith)),
)
