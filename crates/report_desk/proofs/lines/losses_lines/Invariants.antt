use Rattle.std.proofs.Common.{take}
use Rattle.std.specs.List.{AllZip}
use Rattle.report_desk.specs.Lines.{IsLossLine}
use Rattle.report_desk.proofs.lines.losses_lines.Given as goal

abbrev pub invariant-loop-loss : goal.invariant-loop-loss
invariant-loop-loss l = AllZip (IsLossLine l.tables) (take l.loss-index l.losses) l.lines.items
