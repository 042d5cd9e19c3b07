use Rattle.std.proofs.Common.{map, subst, sym}
use Rattle.row_index.specs.Index.{IsIndexOf}
use Rattle.row_index.specs.Ways.{AreWaysOf}
use Rattle.row_index.proofs.Leading.{ways_stay}
use Rattle.row_index.proofs.Indexed.{index_stays}
use Rattle.share_graph.proofs.row_list.add_row.Goals as goal

pub returns-clause-index : goal.returns-clause-index
returns-clause-index g c index is = subst (λ rows. IsIndexOf g.T.Keyed.clues_of rows g.T.Keyed.mark_of index) (sym c.add.ensures.items)
    (index_stays g.T.Keyed.clues_of g.T.Keyed.mark_of _ _ index is)

pub returns-clause-ways : goal.returns-clause-ways
returns-clause-ways g c ways is = subst (λ rows. AreWaysOf (map g.T.Keyed.link_of rows) ways) (sym c.add.ensures.items)
    (ways_stay g.T.Keyed.link_of _ _ ways is)
