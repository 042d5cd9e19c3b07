use Rattle.region_work.specs.Fed.{fed_in}
use Rattle.region_access.specs.Indexed.{IsIndexBy}
use Rattle.region_access.proofs.Arrived.{Arrives}
use Rattle.region_access.proofs.Indexed.{IsRowBelow}
use Rattle.region_access.proofs.arriving.arrivals_of.Given as goal

abbrev pub invariant-loop-place : goal.invariant-loop-place
invariant-loop-place l = IsIndexBy (IsRowBelow Arrives l.tables l.place) (fed_in l.into.entries)
