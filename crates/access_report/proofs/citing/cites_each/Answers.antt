use Rattle.std.proofs.Common.{◌<◌, ◌≤◌, arith}
use Rattle.perm_roles.proofs.Sets.{always_within}
use Rattle.access_report.proofs.citing.cites_each.Goals as goal

pub returns : goal.returns
returns c = (
  λ h p here. (let below : p < 64 = always_within c.args.set.now p here in let all : 64 ≤ c.loop-pos.pos = c.loop-pos-test.false in c.loop-pos.invariant p (omega arith) here),
  λ each. cc,
)
