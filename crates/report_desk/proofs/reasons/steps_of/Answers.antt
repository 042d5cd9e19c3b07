use Rattle.std.proofs.Common.{sym}
use Rattle.report_desk.specs.Reasons.{IsShownStep}
use Rattle.report_desk.proofs.Zipped.{zip_more}
use Rattle.report_desk.proofs.reasons.steps_of.Goals as goal

pub step_of-requires-clause-showable : goal.step_of-requires-clause-showable
step_of-requires-clause-showable c = c.requires.showable c.step-item.result (c.loop-step.step-index, c.loop-step-test.true, sym c.step-item.is)

pub loop-step-preserved : goal.loop-step-preserved
loop-step-preserved c =
    zip_more (IsShownStep c.args.tables.now) c.args.steps.now c.loop-step.shown.items c.push.new.self.items c.loop-step.step-index c.step-item.result c.in_ok-step_of.field-0
    c.loop-step-test.true c.step-item.is c.loop-step.invariant c.in_ok-step_of.ensures c.in_ok-push.ensures.items
