-- The indexes of tables, and a grant that is added to them.
use Rattle.std.specs.Prelude.{List, Option}
use Rattle.std.specs.Global.{Vec}
use Rattle.host_base.specs.declared.ids.GrantId.{GrantId}
use Rattle.share_graph.specs.declared.facts.Node.{Node}
use Rattle.share_graph.specs.declared.state.Tables.{Tables}
use Rattle.region_work.specs.Fed.{fed_in}
use Rattle.region_work.specs.Working.{IsIndexOf}
use Rattle.region_access.specs.declared.fed_grant.NewGrant.{NewGrant}
use Rattle.region_access.specs.declared.indexes.Indexes.{Indexes}
use Rattle.region_access.specs.declared.tie.Tie.{Tie}
use Rattle.region_access.specs.Adding.{HasSameEdges}
use Rattle.region_access.specs.Arriving.{IsArrivalsOf}
use Rattle.region_access.specs.NewEdges.{HasFeeding, HasArrival, HasTies}
use Rattle.region_access.specs.Ties.{IsTiesOf, tied_in}

-- what each index has: each key with its grants
pub record Entries : Type 0 where
  pub edges : List (Node × Vec GrantId)
  pub arrivals : List (Node × Vec GrantId)
  pub ties : List (Tie × Vec GrantId)

abbrev pub entries_of : Indexes → Entries
entries_of indexes = record { edges = indexes.edges.entries; arrivals = indexes.arrivals.entries; ties = indexes.ties.entries }

-- the indexes are those of the tables
pub record AreIndexesOf (t : Tables) (indexes : Entries) : Type 0 where
  pub edges : IsIndexOf t (fed_in indexes.edges)
  pub arrivals : IsArrivalsOf t (fed_in indexes.arrivals)
  pub ties : IsTiesOf t (tied_in indexes.ties)

-- each index has what it had
pub record HaveSame (old new : Entries) : Type 0 where
  pub edges : HasSameEdges (fed_in old.edges) (fed_in new.edges)
  pub arrivals : HasSameEdges (fed_in old.arrivals) (fed_in new.arrivals)
  pub ties : HasSameEdges (tied_in old.ties) (tied_in new.ties)

-- each index has the new grant, if there is one, beside what it had
pub record HaveNew (added : Option NewGrant) (old new : Entries) : Type 0 where
  pub feeding : HasFeeding added (fed_in old.edges) (fed_in new.edges)
  pub arrival : HasArrival added (fed_in old.arrivals) (fed_in new.arrivals)
  pub ties : HasTies added (tied_in old.ties) (tied_in new.ties)
