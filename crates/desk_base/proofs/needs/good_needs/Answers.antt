use Rattle.std.proofs.Common.{refl}
use Rattle.desk_base.specs.Needs.{HasBadNeed}
use Rattle.desk_base.proofs.needs.good_needs.Goals as goal

pub returns-in-Some : goal.returns-in-Some
unfolding HasBadNeed
returns-in-Some c = (c.in-Some.index, refl, c.in-Some.ensures)
