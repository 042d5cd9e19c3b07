use Rattle.std.proofs.Common.{◌≡◌, ◌++◌}
use Rattle.std.specs.List.{filter_map}
use Rattle.access_report.specs.Losing.{made_of}
use Rattle.access_report.proofs.previewing.losses_of.Given as goal

abbrev pub invariant-loop-node : goal.invariant-loop-node
invariant-loop-node l = l.losses.items ++ filter_map made_of l.node-iterator ≡ filter_map made_of l.fn.lost
