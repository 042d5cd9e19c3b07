use Rattle.std.proofs.Common.{take}
use Rattle.std.specs.List.{AllZip}
use Rattle.report_desk.specs.Reasons.{IsShownStep}
use Rattle.report_desk.proofs.reasons.steps_of.Given as goal

abbrev pub invariant-loop-step : goal.invariant-loop-step
invariant-loop-step l = AllZip (IsShownStep l.tables) (take l.step-index l.steps) l.shown.items
