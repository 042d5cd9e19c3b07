use Rattle.std.proofs.Common.{ap}
use Rattle.cloud_keeper.specs.InMemory.{MemRows}
use Rattle.small_book.specs.SmallBook.{small_book}
use Rattle.admin_run.specs.Connection.{HasBook}
use Rattle.hub_core.proofs.Stopping.{memory_outlives}
use Rattle.admin_run.proofs.BookRows.{stored_book}
use Rattle.admin_run.proofs.keeping.book_keeper.Goals as goal

pub returns-clause-book : goal.returns-clause-book
unfolding HasBook
returns-clause-book c =
    stored_book small_book c.in_ok-book.book c.in_ok-rows.rows.items c.new.result c.in_ok-book.ensures.book c.in_ok-book.ensures.formed c.in_ok-rows.ensures.found (ap (λ (k : MemRows). k.rows) c.new.ensures)

pub returns-clause-outlive : goal.returns-clause-outlive
returns-clause-outlive c = memory_outlives c.new.result
