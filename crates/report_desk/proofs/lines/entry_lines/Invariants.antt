use Rattle.std.proofs.Common.{take}
use Rattle.std.specs.List.{AllZip}
use Rattle.report_desk.specs.Lines.{IsEntryLine}
use Rattle.report_desk.proofs.lines.entry_lines.Given as goal

abbrev pub invariant-loop-entry : goal.invariant-loop-entry
invariant-loop-entry l = AllZip (IsEntryLine l.tables) (take l.entry-index l.entries) l.lines.items
