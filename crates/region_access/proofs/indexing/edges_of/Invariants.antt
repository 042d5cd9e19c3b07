use Rattle.region_work.specs.Fed.{fed_in}
use Rattle.region_access.proofs.Added.{IndexBelow}
use Rattle.region_access.proofs.indexing.edges_of.Given as goal

abbrev pub invariant-loop-place : goal.invariant-loop-place
invariant-loop-place l = IndexBelow l.tables (fed_in l.edges.entries) l.place
