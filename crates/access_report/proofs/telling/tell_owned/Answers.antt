use Rattle.access_report.proofs.Told.{owned_none, owned_pos, owned_all}
use Rattle.access_report.proofs.telling.tell_owned.Goals as goal

pub loop-pos-init : goal.loop-pos-init
loop-pos-init c = owned_none c.args.node c.args.held.now c.args.trace.now c.tell_own.new.trace c.in_ok-tell_own.ensures.adds c.in_ok-tell_own.ensures.told

pub loop-pos-preserved : goal.loop-pos-preserved
loop-pos-preserved c =
    owned_pos c.args.node c.args.held.now c.args.trace.now c.loop-pos.trace c.tell_own-in-loop-pos.new.trace c.loop-pos.pos
    c.in_ok-tell_own-2.ensures.adds c.in_ok-tell_own-2.ensures.told c.loop-pos.invariant

pub returns-clause-adds : goal.returns-clause-adds
returns-clause-adds c = c.loop-pos.invariant.adds

pub returns-clause-told : goal.returns-clause-told
returns-clause-told c = owned_all c.args.node c.args.held.now c.args.trace.now c.loop-pos.trace c.loop-pos.pos c.loop-pos-test.false c.loop-pos.invariant
