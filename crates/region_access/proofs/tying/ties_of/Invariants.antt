use Rattle.region_access.specs.Indexed.{IsIndexBy}
use Rattle.region_access.specs.Ties.{tied_in}
use Rattle.region_access.proofs.Indexed.{IsRowBelow}
use Rattle.region_access.proofs.Tied.{Hangs}
use Rattle.region_access.proofs.tying.ties_of.Given as goal

abbrev pub invariant-loop-place : goal.invariant-loop-place
invariant-loop-place l = IsIndexBy (IsRowBelow Hangs l.tables l.place) (tied_in l.ties.entries)
