use Rattle.std.proofs.Common.{take}
use Rattle.region_access.specs.Adding.{Adds, IsNamed}
use Rattle.region_work.specs.Fed.{fed_in}
use Rattle.region_access.proofs.indexing.add_needs.Given as goal

abbrev pub invariant-loop-need : goal.invariant-loop-need
invariant-loop-need l = Adds (IsNamed (take l.need-index l.needs)) l.num (fed_in l.fn.edges.entries) (fed_in l.edges.entries)
