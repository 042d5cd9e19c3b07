use Rattle.std.proofs.Common.{inr}
use Rattle.access_report.proofs.Told.{tells_one, told_one}
use Rattle.access_report.proofs.telling.tell_if.Goals as goal

pub returns-clause-adds : goal.returns-clause-adds
returns-clause-adds c = tells_one c.args.num c.args.grant.now c.args.passed.now c.args.fact c.args.trace.now c.tell.new.trace c.in_ok-tell.ensures (c.is_in.ensures.0 c.if-not-is_in.false)

pub returns-clause-told : goal.returns-clause-told
returns-clause-told c is = inr (told_one c.args.num c.args.grant.now c.args.passed.now c.args.fact c.args.trace.now c.tell.new.trace c.in_ok-tell.ensures)
