use Rattle.access_report.proofs.Told.{passed_none, passed_pos, passed_all}
use Rattle.access_report.proofs.telling.tell_passed.Goals as goal

pub loop-pos-init : goal.loop-pos-init
loop-pos-init c =
    passed_none c.args.num c.args.grant.now c.args.passed.now c.args.before.now c.args.trace.now c.tell_if.new.trace c.in_ok-tell_if.ensures.adds c.in_ok-tell_if.ensures.told

pub loop-pos-preserved : goal.loop-pos-preserved
loop-pos-preserved c =
    passed_pos c.args.num c.args.grant.now c.args.passed.now c.args.before.now c.args.trace.now c.loop-pos.trace c.tell_if-in-loop-pos.new.trace c.loop-pos.pos
    c.in_ok-tell_if-2.ensures.adds c.in_ok-tell_if-2.ensures.told c.loop-pos.invariant

pub returns-clause-adds : goal.returns-clause-adds
returns-clause-adds c = c.loop-pos.invariant.adds

pub returns-clause-told : goal.returns-clause-told
returns-clause-told c =
    passed_all c.args.num c.args.grant.now c.args.passed.now c.args.before.now c.args.trace.now c.loop-pos.trace c.loop-pos.pos c.loop-pos-test.false c.loop-pos.invariant
