use Rattle.std.proofs.Common.{arith}
use Rattle.access_report.proofs.Marked.{above_none, above_next}
use Rattle.access_report.proofs.pruning.mark_back.Goals as goal

pub loop-back-init : goal.loop-back-init
loop-back-init c = above_none c.args.steps.now c.args.marks.now

pub loop-back-preserved : goal.loop-back-preserved
loop-back-preserved c =
    above_next c.args.steps.now c.args.marks.now c.loop-back.marks c.mark_from.new.marks c.loop-back.back _ (let less = c.loop-back-test.true in omega arith) (record { same = c.mark_from.ensures.same; keeps = c.mark_from.ensures.keeps }) c.mark_from.ensures.marked c.mark_from.ensures.only
    c.loop-back.invariant
