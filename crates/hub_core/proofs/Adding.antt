-- What adding an entry comes to: what the outside is told, what the history keeps, and what its keeper has.
use Rattle.std.proofs.Common.{◌≡◌, ℕ, ◌+◌, ◌<◌, ◌≤◌, ◌++◌, Bool, true, false, if◌then◌else◌, List, [], ◌∷◌, Option, Some, None, Result, Ok, Err, length, refl, sym, ◌∙◌, ap, subst, arith, append-nil, length-append}
use Rattle.std.proofs.lemmas.List.Elements.{All-contains, Contains-push}
use Rattle.std.specs.Prelude.{⊤}
use Rattle.cloud_keeper.specs.Keeping.{Keeping, RowsFollow}
use Rattle.cloud_keeper.specs.declared.row.Row.{Row}
use Rattle.desk_base.specs.Limits.{most_entries}
use Rattle.desk_base.specs.Terms.{after, AppId, Event, EventFits, HasGrain, is_open_of, IsOfTables, IsWellFormed, replay, Root, Run, RunId}
use Rattle.desk_base.specs.Terms.{Session, State, Tables, tables_after}
use Rattle.desk_orders.specs.declared.reply.OrderFault.{OrderFault}
use Rattle.grain_supervise.specs.Spawning.{Spawns}
use Rattle.grain_supervise.specs.declared.start.Start.{Start}
use Rattle.live_access.specs.Kept.{Kept, IsSolvedFor}
use Rattle.row_tables.specs.Kept.{AreRowsOf, IsStored, with_row}
use Rattle.share_graph.specs.Changing.{change_row}
use Rattle.share_graph.specs.History.{close_first, opened}
use Rattle.share_graph.specs.Setting.{closed}
use Rattle.share_graph.specs.declared.event.Event.TheVariants as event
use Rattle.state_step.proofs.AfterAll.{replay_appended}
use Rattle.state_step.proofs.Touched.{AreTouched, change_row_touches, first_touches, length_touched}
use Rattle.hub_core.specs.Inner.{KeepsRows, entry_of, kept_by}
use Rattle.hub_core.specs.Sharing.{KeepsPast}
use Rattle.hub_core.specs.Ticking.{ended}
use Rattle.hub_core.specs.Spawning.{Spawned}
use Rattle.hub_core.proofs.Ticking.{never_back_added}

-- a spawner that wasn't told anything was told what no entry wants
pub told_nothing : (old new : Spawns) (app : AppId) (token : List ℕ) → new.starts ≡ old.starts → new.stops ≡ old.stops
    → Spawned old new app token []
told_nothing old new app token starts stops = record {
  starts = λ told was. starts ∙ was ∙ ap (λ (xs : List Start). Some xs) (sym (append-nil told));
  stops = λ told was. stops ∙ was ∙ ap (λ (xs : List RunId). Some xs) (sym (append-nil told));
}

-- and so it was told what an event of the tables wants
pub wants_nothing : (spawns : Spawns) (e : Event) (app : AppId) (token : List ℕ) → IsOfTables e
    → Spawned spawns spawns app token (e ∷ [])
wants_nothing spawns (event.RunStarted run) app token is = absurd is
wants_nothing spawns (event.RunStopped r) app token is = absurd is
wants_nothing spawns e app token is = told_nothing spawns spawns app token refl refl

-- the grain of a run that is started is there
pub grain_there : (s : State) (e : Event) (run : Run) → e ≡ event.RunStarted run → EventFits s e → HasGrain s.tables run.grain
grain_there s e run is fits =
    let now : EventFits s (event.RunStarted run) = rw is at fits in
    All-contains (λ (x : Run). HasGrain s.tables x.grain) (s.runs ++ run ∷ []) run now.formed.rooted.runs (Contains-push s.runs run)

-- a keeper that wasn't called has the rows that it had
pub follows_self : (k : Keeping) (result : Result ⊤ OrderFault) → RowsFollow k k (kept_by None result)
follows_self k (Ok done) = record { told = λ rows is. (rows, is, refl) }
follows_self k (Err why) = record { told = λ rows is. (rows, is, refl) }

close_first_touches : (root : Root) (xs : List Session) → AreTouched closed xs (close_first root xs)
close_first_touches root [] = tt
close_first_touches root (x ∷ xs) =
    first_touches closed (is_open_of root x) x xs (close_first root xs) (close_first_touches root xs)

closed_or_all : (test : Bool) (root : Root) (all : List Session)
    → length (if test then close_first root all else all) ≡ length all
closed_or_all true root all = sym (length_touched closed all (close_first root all) (close_first_touches root all))
closed_or_all false root all = refl

-- an event opens one session at most
opens_one : (s : State) (e : Event) → length (after s e).sessions ≤ length s.sessions + 1
opens_one s (event.SessionOpened session) =
    let same : length (opened s.sessions session) ≡ length (s.sessions ++ session ∷ []) = closed_or_all _ session.root (s.sessions ++ session ∷ []) in
    omega (arith, same, length-append s.sessions (session ∷ []))
opens_one s (event.SessionClosed n) =
    omega (arith, length_touched closed s.sessions (change_row closed s.sessions n.0) (change_row_touches closed s.sessions n.0))
opens_one s e = omega arith

-- what a value that holds a history keeps, once an entry was added
pub keeps_added : (start s : State) (old : List Event) (before : Kept) → KeepsPast start s old before
    → (s' : State) (new : List Event) (kept : Kept) (e : Event) → EventFits s e → length old + 1 ≤ most_entries + ended s'.tables
    → s' ≡ after s e → new ≡ old ++ e ∷ [] → IsSolvedFor s'.tables kept → KeepsPast start s' new kept
keeps_added start s old before is s' new kept e fits room state_is entry solved = record {
  replayed = state_is ∙ ap (λ (x : State). after x e) is.replayed
      ∙ sym (ap (λ (xs : List Event). replay start xs) entry ∙ replay_appended start old e);
  formed = rw state_is fits.formed;
  solved = solved;
  few = omega (arith, ap length entry, length-append old (e ∷ []));
  sessions = omega (
    arith,
    ap length entry,
    length-append old (e ∷ []),
    opens_one s e,
    ap (λ (x : State). length x.sessions) state_is,
  );
  onward = rw entry (never_back_added start old e is.onward (rw is.replayed at fits));
}

-- where commands may add an entry, it is none too many
pub room_for_commands : (t : Tables) (n : ℕ) → n < most_entries → n + 1 ≤ most_entries + ended t
room_for_commands t n few = omega (arith, few)

-- the tables of the state after an event
tables_of_after : (s : State) (e : Event) → (after s e).tables ≡ tables_after s.tables e
tables_of_after s (event.RunStarted run) = refl
tables_of_after s e = refl

-- a keeper has the tables again whose rows became those of others
pub stored_by : (k k' : Keeping) (t u : Tables) (change : List Row → List Row) → RowsFollow k k' change
    → ((rows : List Row) → AreRowsOf t rows → AreRowsOf u (change rows)) → IsStored k t → IsStored k' u
stored_by k k' t u change follows keeps stored = record {
  told = λ rows is.
      (let (before, was, same) = follows.told rows is in
      subst (λ (xs : List Row). AreRowsOf u xs) (sym same) (keeps before (stored.told before was)));
}

-- it has them at the end of a history, once it was told of an event
pub stored_told : (k k' : Keeping) (start s : State) (old new : List Event) (e : Event) (row : Option Row)
    (result : Result ⊤ OrderFault) → s ≡ replay start old → new ≡ old ++ entry_of e result → IsWellFormed s
    → EventFits s e → KeepsRows s.tables e row → RowsFollow k k' (kept_by row result)
    → IsStored k (replay start old).tables → IsStored k' (replay start new).tables
stored_told k k' start s old new e row (Ok done) same grew formed fits keeps follows stored =
    let after_it : replay start new ≡ after s e = ap (replay start) grew ∙ replay_appended start old e ∙ ap (λ (u : State). after u e) (sym same) in
    subst (λ (t : Tables). IsStored k' t) (sym (ap (λ (u : State). u.tables) after_it ∙ tables_of_after s e))
    (stored_by k k' s.tables (tables_after s.tables e) (with_row row) follows (λ rows are. keeps s rows formed refl fits are) (rw same stored))
stored_told k k' start s old new e row (Err why) same grew formed fits keeps follows stored = rw (grew, append-nil)
    (stored_by k k' (replay start old).tables (replay start old).tables (λ rows. rows) follows (λ rows are. are) stored)
