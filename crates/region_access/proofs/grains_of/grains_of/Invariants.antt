use Rattle.region_access.proofs.GrainsOf.{AreBelow}
use Rattle.region_access.proofs.grains_of.grains_of.Given as goal

abbrev pub invariant-loop-place : goal.invariant-loop-place
invariant-loop-place l = AreBelow l.tables.grains l.app l.place l.nums.items
