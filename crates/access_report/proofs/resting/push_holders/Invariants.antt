use Rattle.std.proofs.Common.{◌≡◌, ◌++◌, take}
use Rattle.std.specs.List.{filter_map}
use Rattle.region_work.specs.Owed.{holder_of}
use Rattle.access_report.proofs.resting.push_holders.Given as goal

abbrev pub invariant-loop-need : goal.invariant-loop-need
invariant-loop-need l = l.nodes.items ≡ l.fn.nodes.items ++ filter_map holder_of (take l.need-index l.needs)
