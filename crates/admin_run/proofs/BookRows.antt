-- A keeper in memory that has the rows of the small book.
use Rattle.std.proofs.Common.{◌≡◌, true, List, Some, sym, ◌∙◌, ap, subst}
use Rattle.cloud_keeper.specs.declared.row.Row.{Row}
use Rattle.cloud_keeper.specs.InMemory.{MemRows}
use Rattle.share_graph.specs.declared.state.State.{State}
use Rattle.share_graph.specs.declared.state.Tables.{Tables}
use Rattle.share_graph.specs.WellFormed.{IsWellFormed}
use Rattle.row_tables.specs.Kept.{AreRowsOf, IsStored}

some_is : (xs ys : List Row) → Some xs ≡ Some ys → xs ≡ ys
some_is xs ys is = cc

-- where the rows are those of the book's tables, the keeper has the tables
pub stored_book : (book state : State) (kept : List Row) (keeper : MemRows) → state ≡ book → IsWellFormed book → ((s : State) → IsWellFormed s → s.tables ≡ state.tables → AreRowsOf state.tables kept) → keeper.rows ≡ kept
    → IsStored (record { faults = keeper.count.faults; clean = true; rows = Some keeper.rows }) book.tables
stored_book book state kept keeper same formed found is = record {
  told = λ rows told.
      (let tables : book.tables ≡ state.tables = sym (ap (λ (s : State). s.tables) same) in
      let rows_are : kept ≡ rows = sym is ∙ some_is keeper.rows rows told in
      subst (λ (t : Tables). AreRowsOf t rows) (sym tables) (subst (λ (r : List Row). AreRowsOf state.tables r) rows_are (found book formed tables)));
}
