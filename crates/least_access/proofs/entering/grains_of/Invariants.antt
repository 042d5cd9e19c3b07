use Rattle.std.proofs.Common.{◌≡◌, ◌++◌}
use Rattle.std.specs.List.{filter_map}
use Rattle.least_access.specs.Entered.{entered_by}
use Rattle.least_access.proofs.entering.grains_of.Given as goal

abbrev pub invariant-loop-node : goal.invariant-loop-node
invariant-loop-node l = l.grains.items ++ filter_map entered_by l.node-iterator ≡ filter_map entered_by l.fn.entries
