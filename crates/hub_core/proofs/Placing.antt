-- What a desk that owns its history tells, where no order was answered.
use Rattle.std.proofs.Common.{◌≡◌, ◌++◌, ◌∙◌, ℕ, Bool, true, false, List, [], Result, Ok, Err, length, take, refl, sym, ap, subst, arith, append-nil, length-append}
use Rattle.std.proofs.Math.Seq.{take-append_seam}
use Rattle.cloud_keeper.specs.Keeping.{Keeping}
use Rattle.cloud_keeper.specs.declared.row.Row.{Row}
use Rattle.desk_base.specs.Terms.{Event, IsWellFormed, Key, replay, State, Tables, Verdict}
use Rattle.host_base.specs.declared.bytes.Memory.{Memory}
use Rattle.row_tables.specs.Kept.{AreRowsOf, IsStored}
use Rattle.session_table.specs.Verdict.{IsVerdict}
use Rattle.site_caps.specs.Law.{Law}
use Rattle.share_graph.specs.declared.event.Event.TheVariants as event
use Rattle.state_step.proofs.AfterAll.{replay_appended}
use Rattle.hub_core.specs.Book.{Book, GoesOn, Judged, TakesNone, Ticked}
use Rattle.hub_core.specs.Sharing.{Sharing, book_of}
use Rattle.hub_core.specs.Ticking.{IsTick, NeverBack, added_by}

pub none_taken : (book : Book) → TakesNone book book
none_taken book = record {
  later = record {
    law = refl;
    start = refl;
    more = [];
    seen = sym (append-nil book.seen);
    counts = record { store = omega arith; secrets = omega arith; starts = omega arith; clean = λ is. is };
    stored = λ has. has;
  };
  accepted = refl;
  undrawn = refl;
  untold = record { starts = refl; stops = refl };
}

-- the verdict at the end of the history
pub judged_here : {K : Type 0} (law : Law) (sharing : Sharing K) (key : Key) (verdict : Verdict) → IsWellFormed (replay sharing.start sharing.history)
    → IsVerdict (replay sharing.start sharing.history) key verdict → Judged (length sharing.history) (book_of law sharing) key (length sharing.history) verdict
judged_here law sharing key verdict formed is =
    record { before = sharing.history; rest = []; seen = sym (append-nil sharing.history); place_is = refl; low_is = omega arith; formed = formed; verdict_is = is }

-- ---- a tick at the end of a history

-- the rows of tables don't tell their moment
rows_at : (t : Tables) (m : ℕ) (rows : List Row) → AreRowsOf t rows → AreRowsOf (record t { moment = m }) rows
rows_at t m rows are = record {
  have = record {
    accounts = are.have.accounts;
    apps = are.have.apps;
    grains = are.have.grains;
    grants = are.have.grants;
    saved = are.have.saved;
  };
  rows_are = are.rows_are;
}

stored_at : (k : Keeping) (t : Tables) (m : ℕ) → IsStored k t → IsStored k (record t { moment = m })
stored_at k t m stored = record { told = λ rows is. rows_at t m rows (stored.told rows is) }

pub stored_ticked : (k : Keeping) (start : State) (old new : List Event) (m : ℕ) (answer : Result Bool Memory) → new ≡ old ++ added_by m answer
    → IsStored k (replay start old).tables → IsStored k (replay start new).tables
stored_ticked k start old new m (Ok true) grew stored =
    rw (grew, replay_appended start old (event.Ticked m)) (stored_at k (replay start old).tables m stored)
stored_ticked k start old new m (Ok false) grew stored = rw (grew, append-nil old) stored
stored_ticked k start old new m (Err memory) grew stored = rw (grew, append-nil old) stored

-- what a tick comes to that tells nobody
pub ticked_here : {K : Type 0} (law : Law) (old new : Sharing K) (m : ℕ) (answer : Result Bool Memory) → new.start ≡ old.start
    → new.history ≡ old.history ++ added_by m answer → new.holds ≡ old.holds → IsWellFormed (replay old.start old.history)
    → IsTick (replay old.start old.history) m answer → Ticked (book_of law old) (book_of law new) m (length old.history) answer
ticked_here law old new m answer start grew holds formed is = record {
  before = old.history;
  rest = [];
  later = record {
    law = refl;
    start = start;
    more = added_by m answer;
    seen = grew;
    counts = rw holds (record { store = omega arith; secrets = omega arith; starts = omega arith; clean = λ is. is });
    stored = λ has. rw (holds, start) (stored_ticked old.holds.keeping old.start old.history new.history m answer grew has);
  };
  seen = grew ∙ sym (append-nil (old.history ++ added_by m answer));
  place_is = refl;
  low_is = omega arith;
  formed = rw start formed;
  answered = rw start is;
  accepted = ap length grew ∙ length-append old.history (added_by m answer);
  undrawn = rw holds refl;
  untold = rw holds (record { starts = refl; stops = refl });
}

-- the clock never went back up to the end of what was seen before
pub goes_here : (book : Book) (before more : List Event) → book.seen ≡ before ++ more → NeverBack book.start before → GoesOn book (length before)
goes_here book before more seen onward =
    let same : take (length before) book.seen ≡ before = ap (take (length before)) seen ∙ take-append_seam before more in
    subst (λ (es : List Event). NeverBack book.start es) (sym same) onward
