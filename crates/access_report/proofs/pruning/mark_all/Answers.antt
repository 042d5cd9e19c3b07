use Rattle.access_report.proofs.Marked.{marked_none, marked_next, marked_all, only_all}
use Rattle.access_report.proofs.pruning.mark_all.Goals as goal

pub loop-at-init : goal.loop-at-init
loop-at-init c = marked_none c.args.marks.now c.args.place c.args.from.now

pub loop-at-preserved : goal.loop-at-preserved
loop-at-preserved c =
    marked_next c.args.marks.now c.loop-at.marks c.mark.new.marks c.args.place c.args.from.now c.loop-at.at-index (record { same = c.mark.ensures.same; keeps = c.mark.ensures.keeps }) c.mark.ensures.marked c.mark.ensures.only
    c.loop-at.invariant

pub returns-clause-same : goal.returns-clause-same
returns-clause-same c = c.loop-at.invariant.marks.same

pub returns-clause-keeps : goal.returns-clause-keeps
returns-clause-keeps c = c.loop-at.invariant.marks.keeps

pub returns-clause-marked : goal.returns-clause-marked
returns-clause-marked c = marked_all c.args.marks.now c.loop-at.marks c.args.place c.args.from.now c.loop-at.at-index c.loop-at-test.false c.loop-at.invariant

pub returns-clause-only : goal.returns-clause-only
returns-clause-only c = only_all c.args.marks.now c.loop-at.marks c.args.place c.args.from.now c.loop-at.at-index c.loop-at.auto.at-index-end c.loop-at.invariant
