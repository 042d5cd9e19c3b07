-- One connection that is served from the small book.
use Rattle.std.specs.Prelude.{◌≡◌, ◌++◌, List, []}
use Rattle.std.specs.List.{flat_map}
use Rattle.admin_run.specs.Terms.{added_by, Backing, Book, book_at, ConnEnd, Event, IsStored, Keeping, Law, replay, Served, small_book, turns_in, Wired, with_book}

-- a desk that began with the small book, and what its objects tell
abbrev pub book_with : Law → List Event → Backing → Book
book_with law history holds = book_at law (record { start = small_book; entries = history }) holds

-- THE HEADLINE of a connection that was served from the small book, by the law of its sites, over a connection's objects and
-- what its desk works with. The history that it ends with is what the orders of its turns added, and nothing else, and the
-- keeper has the tables after it.
pub record ServesBook (law : Law) (wire wire' : Wired) (old new : Backing) : Type 0 where
  pub end : ConnEnd
  pub history : List Event
  pub headline : Served (with_book wire (book_with law [] old)) (with_book wire' (book_with law history new))
      end.end end.from end.places end.served end.forwarded
  pub written : history ≡ added_by (flat_map (λ turn. turn.acts) (headline.turns ++ turns_in headline.hand))
  pub stored : IsStored new.keeping (replay small_book history).tables

-- the keeper has the tables of the small book
unfoldable pub HasBook : Keeping → Type 0
HasBook keeping = IsStored keeping small_book.tables
