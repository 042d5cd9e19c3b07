use Rattle.std.proofs.Common.{take}
use Rattle.access_report.specs.Waiting.{AddsSites}
use Rattle.access_report.proofs.spreading.add_sites.Given as goal

abbrev pub invariant-loop-num : goal.invariant-loop-num
invariant-loop-num l = AddsSites l.tables (take l.num-index l.grants) l.initial.queue l.queue
