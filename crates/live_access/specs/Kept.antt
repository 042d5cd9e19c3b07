-- What is kept along the history of events: what each node holds, and the indexes by which a region is found.
use Rattle.share_graph.specs.declared.state.Tables.{Tables}
use Rattle.least_access.specs.Solved.{Table, IsSolutionOf}
use Rattle.region_access.specs.Indexes.{Entries, AreIndexesOf}

-- what each node holds, and the grants of the tables by what they have to do with
pub record Kept : Type 0 where
  pub table : Table
  pub indexes : Entries

-- THE SOLUTION, KEPT. The table has exactly the facts that hold by the tables, and the indexes are those of the tables.
pub record IsSolvedFor (t : Tables) (kept : Kept) : Type 0 where
  pub solution : IsSolutionOf t kept.table
  pub indexes : AreIndexesOf t kept.indexes
