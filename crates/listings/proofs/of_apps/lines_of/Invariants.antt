use Rattle.std.proofs.Common.{take}
use Rattle.std.specs.List.{AllZip}
use Rattle.listings.specs.Lines.{IsAppLine}
use Rattle.listings.proofs.of_apps.lines_of.Given as goal

abbrev pub invariant-loop-app : goal.invariant-loop-app
invariant-loop-app l = AllZip IsAppLine (take l.app-index l.apps) l.lines.items
