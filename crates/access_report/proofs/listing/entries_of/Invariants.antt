use Rattle.std.proofs.Common.{◌≡◌, ◌++◌}
use Rattle.std.specs.List.{filter_map}
use Rattle.access_report.specs.Found.{entry_of}
use Rattle.access_report.proofs.listing.entries_of.Given as goal

abbrev pub invariant-loop-node : goal.invariant-loop-node
invariant-loop-node l = l.entries.items ++ filter_map entry_of l.node-iterator ≡ filter_map entry_of l.fn.found
