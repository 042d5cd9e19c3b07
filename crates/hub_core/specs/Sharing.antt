-- One value that holds a history: what it began with, its entries, and the objects beside it.
use Rattle.std.specs.Prelude.{◌≡◌, ◌+◌, ◌<◌, ◌≤◌, List, length}
use Rattle.hub_core.specs.Terms.{Event, IsSolvedFor, IsWellFormed, Kept, Law, replay, State}
use Rattle.desk_base.specs.Limits.{most_entries}
use Rattle.hub_core.specs.Book.{Book, Backing}
use Rattle.hub_core.specs.Ticking.{ended, NeverBack}

-- a history: the state that it began with, and its entries
pub record Past : Type 0 where
  pub start : State
  pub entries : List Event

-- the state at its end
abbrev pub state_of : Past → State
state_of past = replay past.start past.entries

-- what contracts see of the objects that a desk works with: the keeper itself, and what all of them tell
pub record Objects (K : Type 0) : Type 0 where
  pub keeper : K
  pub tell : Backing

-- a history, what the objects beside it tell, and their keeper
pub record Sharing (K : Type 0) : Type 0 where
  pub start : State
  pub history : List Event
  pub holds : Backing
  pub keeper : K

-- that history, beside such objects
abbrev pub sharing_of : {K : Type 0} → Past → Objects K → Sharing K
sharing_of past objects =
    record { start = past.start; history = past.entries; holds = objects.tell; keeper = objects.keeper }

-- What a value that holds a history keeps: its state is the replay of the history and well formed, what each node holds is
-- solved for it, the history isn't longer than commands may make it and by the grants that ended more, no more sessions were
-- ever opened than a session's number can say, and the clock never went back.
pub record KeepsPast (start state : State) (entries : List Event) (kept : Kept) : Type 0 where
  pub replayed : state ≡ replay start entries
  pub formed : IsWellFormed state
  pub solved : IsSolvedFor state.tables kept
  pub few : length entries ≤ most_entries + ended state.tables
  pub sessions : length state.sessions < 2147483648 + length entries
  pub onward : NeverBack start entries

-- what a desk tells that has nothing but this
abbrev pub book_at : Law → Past → Backing → Book
book_at law past holds = record {
  law = law;
  start = past.start;
  seen = past.entries;
  accepted = length past.entries;
  holds = holds;
}

abbrev pub book_of : {K : Type 0} → Law → Sharing K → Book
book_of law sharing =
    book_at law (record { start = sharing.start; entries = sharing.history }) sharing.holds
