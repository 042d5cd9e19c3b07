use Rattle.std.proofs.Common.{◌≤◌}
use Rattle.desk_base.proofs.GoodNeeds.{GoodBelow}
use Rattle.desk_base.proofs.needs.first_bad.Given as goal

abbrev pub invariant-loop-index : goal.invariant-loop-index
invariant-loop-index l = record { good : GoodBelow l.tables l.needs l.index; small : l.index ≤ 8 }
