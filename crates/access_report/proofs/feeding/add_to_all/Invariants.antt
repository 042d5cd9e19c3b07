use Rattle.std.proofs.Common.{take}
use Rattle.region_work.specs.Fed.{fed_in}
use Rattle.access_report.specs.Waiting.{AddsToAll}
use Rattle.access_report.proofs.feeding.add_to_all.Given as goal

abbrev pub invariant-loop-node : goal.invariant-loop-node
invariant-loop-node l = AddsToAll (take l.node-index l.nodes) l.num (fed_in l.initial.fed.entries) (fed_in l.fed.entries)
