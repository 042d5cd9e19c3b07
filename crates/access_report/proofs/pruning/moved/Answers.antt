use Rattle.std.proofs.Common.{arith}
use Rattle.access_report.proofs.KeptSteps.{moved_next, moved_all}
use Rattle.access_report.proofs.pruning.moved.Goals as goal

pub loop-at-init : goal.loop-at-init
loop-at-init c = λ j k less is. absurd (omega arith)

pub loop-at-preserved : goal.loop-at-preserved
loop-at-preserved c =
    moved_next c.args.places.now c.args.from.now c.loop-at.to.items c.add_moved.new.to.items c.loop-at.at-index c.in_ok-add_moved.ensures.keeps c.in_ok-add_moved.ensures.there c.loop-at.invariant

pub returns : goal.returns
returns c = moved_all c.args.places.now c.args.from.now c.loop-at.to.items c.loop-at.at-index c.loop-at-test.false c.loop-at.invariant
