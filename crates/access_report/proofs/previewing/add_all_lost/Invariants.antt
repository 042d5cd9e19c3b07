use Rattle.std.proofs.Common.{take}
use Rattle.access_report.specs.Losing.{AreLost}
use Rattle.access_report.proofs.previewing.add_all_lost.Given as goal

abbrev pub invariant-loop-node : goal.invariant-loop-node
invariant-loop-node l = AreLost l.solved l.table.entries (take l.node-index l.nodes) l.lost.entries
