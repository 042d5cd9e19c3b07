use Rattle.std.proofs.Common.{◌⊎◌, ◌↔◌, take, Contains}
use Rattle.region_access.specs.declared.tie.Tie.{Tie}
use Rattle.region_access.specs.Ties.{IsAskedBy}
use Rattle.region_access.proofs.tying.add_asked.Given as goal

abbrev pub invariant-loop-need : goal.invariant-loop-need
invariant-loop-need l = (on : Tie) → Contains l.ties.items on ↔ (Contains l.fn.ties.items on ⊎ IsAskedBy (take l.need-index l.needs) on)
