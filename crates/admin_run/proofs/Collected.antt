-- The login that was read, and what was collected by a desk that nobody else gave orders.
use Rattle.std.proofs.Common.{◌≡◌, ◌≢◌, ◌≤◌, ◌<◌, ◌+◌, ◌++◌, ◌⊎◌, ℕ, List, [], ◌∷◌, cond, Some, Option, Result, Err, get_or, length, take, drop, refl, sym, ◌∙◌, ap, subst, arith, inl, inr, append_assoc, length-append}
use Rattle.std.specs.List.{All}
use Rattle.std.proofs.lemmas.List.Elements.{All-nil, All-cons, All-append}
use Rattle.std.proofs.lemmas.List.Sums.{sum_by-append}
use Rattle.std.proofs.lemmas.Bool.{cases_lt}
use Rattle.cloud_keeper.specs.Keeping.{Keeping, RowsFollow, TellsStill}
use Rattle.cloud_keeper.specs.declared.row.Row.{Row}
use Rattle.cloud_serve.specs.Acts.{Act, failures, is_fault}
use Rattle.cloud_serve.specs.Collecting.{EndsWith}
use Rattle.cloud_serve.specs.Effects.{Came}
use Rattle.cloud_serve.specs.declared.sharing.Collecting.{Collecting}
use Rattle.desk_orders.specs.declared.reply.OrderFault.{OrderFault}
use Rattle.desk_orders.specs.declared.reply.OrderFault.TheVariants as fault
use Rattle.desk_orders.specs.declared.reply.Reply.{Reply}
use Rattle.host_base.specs.Outside.{GivesBytes, Grew, Inlet, Outlet, Rose}
use Rattle.hub_core.specs.Book.{Backing, Book}
use Rattle.host_clock.specs.Ticking.{Ticks}
use Rattle.hub_core.specs.Stopping.{OutliveStops}
use Rattle.hub_core.specs.Opening.{AreLoaded, opened}
use Rattle.hub_core.specs.Sharing.{Sharing, book_at, book_of}
use Rattle.row_tables.specs.Checks.{IsBadRow}
use Rattle.row_tables.specs.Kept.{AreRowsOf, IsStored}
use Rattle.row_tables.specs.declared.stored.BadRow.{BadRow}
use Rattle.share_graph.specs.History.{replay}
use Rattle.share_graph.specs.WellFormed.{IsWellFormed}
use Rattle.share_graph.specs.declared.state.State.{State}
use Rattle.share_graph.specs.declared.state.Tables.{Tables}
use Rattle.site_caps.specs.Law.{Law}
use Rattle.admin_run.specs.Collecting.{Collects, collecting_by, CollectsNone, CollectsOn, HasNoTables, ReadsLogin, TellsOutcome}
use Rattle.admin_run.specs.Outside.{HasStatusCause, Outside}
use Rattle.admin_run.proofs.First.{StatesTables, of_keeper}
use Rattle.admin_run.proofs.Told.{rose_more}

-- what stands while a login is read
pub record LoginSoFar (old now : Inlet) (held : List ℕ) : Type 0 where
  pub told : (bytes : List ℕ) → old.left ≡ Some bytes → (rest : List ℕ) × (now.left ≡ Some rest) × (bytes ≡ held ++ rest)
  pub one_line : All (λ byte. byte ≢ 10) held
  pub few : length held ≤ 200
  pub counts : old.faults ≤ now.faults

pub none_read : (inlet : Inlet) → LoginSoFar inlet inlet []
none_read inlet = record {
  told = λ bytes is. (bytes, is, refl);
  one_line = All-nil (λ byte. byte ≢ 10);
  few = omega arith;
  counts = omega arith;
}

-- one byte came: it is the first of those that were left
pub gives_one : (bytes buf : List ℕ) (n d : ℕ) (now : Inlet) → GivesBytes bytes n buf now → n ≡ 1 → length buf ≡ 1 → (more : List ℕ) × (bytes ≡ get_or buf 0 d ∷ more) × (now.left ≡ Some more)
gives_one [] buf n d now g is one = absurd (omega (arith, g.within, is))
gives_one (x ∷ xs) [] n d now g is one = absurd (omega (arith, one))
gives_one (x ∷ xs) (y ∷ ys) n d now g is one =
    let pieces : take 1 (y ∷ ys) ≡ take 1 (x ∷ xs) = subst (λ (m : ℕ). take m (y ∷ ys) ≡ take m (x ∷ xs)) is g.piece in
    let same : y ≡ x = cc pieces in
    (xs, ap (λ (b : ℕ). b ∷ xs) (sym same), subst (λ (m : ℕ). now.left ≡ Some (drop m (x ∷ xs))) is g.left)

module _ (old now : Inlet) (held : List ℕ) (so : LoginSoFar old now held) where
  pub read_at_end : ((left : List ℕ) → now.left ≡ Some left → left ≡ []) → ReadsLogin old held
  read_at_end none bytes is =
      let (rest, left, whole) = so.told bytes is in
      record { rest = rest; bytes_are = whole; one_line = so.one_line; few = so.few; ends = inl (none rest left) }

  pub read_at_feed : ((left : List ℕ) → now.left ≡ Some left → (more : List ℕ) × (left ≡ 10 ∷ more)) → ReadsLogin old held
  read_at_feed feed bytes is =
      let (rest, left, whole) = so.told bytes is in
      record { rest = rest; bytes_are = whole; one_line = so.one_line; few = so.few; ends = inr (inl (feed rest left)) }

  pub read_whole : (length held < 200 → ⊥) → ReadsLogin old held
  read_whole not bytes is =
      let (rest, left, whole) = so.told bytes is in
      record { rest = rest; bytes_are = whole; one_line = so.one_line; few = so.few; ends = inr (inr (omega (arith, so.few, not))) }

  pub read_on : (next : Inlet) (byte : ℕ) → length held < 200 → byte ≢ 10 → ((left : List ℕ) → now.left ≡ Some left → (more : List ℕ) × (left ≡ byte ∷ more) × (next.left ≡ Some more))
      → now.faults ≤ next.faults → LoginSoFar old next (held ++ byte ∷ [])
  read_on next byte less other gives counts = record {
    told = λ bytes is.
        (let (rest, left, whole) = so.told bytes is in
        let (more, first, then) = gives rest left in
        (more, then, whole ∙ ap (λ (xs : List ℕ). held ++ xs) first ∙ sym (append_assoc held (byte ∷ []) more)));
    one_line = All-append (λ b. b ≢ 10) held (byte ∷ []) so.one_line (All-cons (λ b. b ≢ 10) byte [] other (All-nil (λ b. b ≢ 10)));
    few = omega (arith, less, length-append held (byte ∷ []));
    counts = omega (arith, so.counts, counts);
  }

-- tables that were loaded
pub loads : (old now : Keeping) (items : List Row) (tables : Tables) → ((rows : List Row) → now.rows ≡ Some rows → items ≡ rows) → TellsStill old now (λ rows. rows) → StatesTables items tables
    → AreLoaded old now tables × IsStored now tables × IsWellFormed (opened tables)
loads old now items tables loaded tells states = (
  record { rows = items; told = of_keeper old now items loaded tells; read = states.0 },
  record { told = λ rows told. subst (λ (list : List Row). AreRowsOf tables list) (loaded rows told) states.1 },
  states.2,
)

-- a bad row, or want of memory
pub loads_none : (old now : Keeping) (items : List Row) (status : ℕ) → ((rows : List Row) → now.rows ≡ Some rows → items ≡ rows) → TellsStill old now (λ rows. rows)
    → ((status ≡ 10) × ((bad : BadRow) × IsBadRow items bad)) ⊎ (status ≡ 7) → HasNoTables old now status
loads_none old now items status loaded tells (inl (ten, (bad, first))) = inr (inl (ten, (bad, record { rows = items; told = of_keeper old now items loaded tells; first = first })))
loads_none old now items status loaded tells (inr seven) = inr (inr seven)

-- the same tables at a moment
rows_at : (t : Tables) (m : ℕ) (rows : List Row) → AreRowsOf t rows → AreRowsOf (record t { moment = m }) rows
rows_at t m rows are = record {
  have = record {
    accounts = are.have.accounts;
    apps = are.have.apps;
    grains = are.have.grains;
    grants = are.have.grants;
    saved = are.have.saved;
  };
  rows_are = are.rows_are;
}

pub stored_at : (keeping : Keeping) (tables : Tables) (moment : ℕ) → IsStored keeping tables → IsStored keeping (record tables { moment = moment })
stored_at keeping tables moment stored = record { told = λ rows is. rows_at tables moment rows (stored.told rows is) }

-- a last failure of the keeper was counted
failed_once : (acts earlier : List Act) (last : Act) → acts ≡ earlier ++ last ∷ [] → last.answer ≡ Err fault.Store → 1 ≤ failures fault.Store acts
failed_once acts earlier last are is =
    let one : failures fault.Store (last ∷ []) ≡ 1 = ap (λ (answer : Result Reply OrderFault). 0 + cond (is_fault fault.Store answer) 1 0) is in
    let split : failures fault.Store (earlier ++ last ∷ []) ≡ failures fault.Store earlier + failures fault.Store (last ∷ []) = sum_by-append (λ (act : Act). cond (is_fault fault.Store act.answer) 1 0) earlier (last ∷ []) in
    omega (arith, ap (failures fault.Store) are, split, one)

grew_rose : (before after n : ℕ) → before ≤ after → 1 ≤ n → Grew before after n → Rose before after
grew_rose before after n less some grew small =
    elim (cases_lt after 18446744073709551615) [ inl under ↦ (let grown : before + n ≤ after = grew under in omega arith) | inr big ↦ omega arith ]

module _ {K : Type 0} (law : Law) (asks : Collecting) (t : Tables) (old new : Backing) (place : ℕ) (outcome : Result ℕ (Result Reply OrderFault)) where
  -- orders were given to this desk, and no others
  abbrev CameOf : Sharing K → Type 0
  CameOf desk = Came asks 0 (book_at law (record { start = opened t; entries = [] }) old) (book_of law desk) place (λ acts. EndsWith asks acts outcome)

  pub collects_on : (desk desk' : Sharing K) (keeper : K) (out out' : Outlet) (status : ℕ) → desk ≡ record { start = opened t; history = []; holds = old; keeper = keeper } → new ≡ desk'.holds
      → Came asks (length (book_of law desk).seen) (book_of law desk) (book_of law desk') place (λ acts. EndsWith asks acts outcome)
      → IsStored new.keeping (replay desk'.start desk'.history).tables → TellsOutcome outcome out out' status ⊎ ((status ≡ 7) × (out' ≡ out)) → CollectsOn law asks t old new out out' status
  collects_on desk desk' keeper out out' status fresh back came stored told =
      let begun : CameOf desk' = subst (λ (x : Sharing K). Came asks (length (book_of law x).seen) (book_of law x) (book_of law desk') place (λ acts. EndsWith asks acts outcome)) fresh came in
      let same_start = begun.ordered_of.later.start in
      let started : CameOf (record desk' { start = opened t }) = subst (λ (x : State). CameOf (record desk' { start = x })) same_start begun in
      let one : CameOf (record desk' { start = opened t; holds = new }) = subst (λ (x : Backing). CameOf (record desk' { start = opened t; holds = x })) (sym back) started in
      record {
        history = desk'.history;
        place = place;
        outcome = outcome;
        came = one;
        written = one.ordered_of.alone (omega (arith, one.ordered_of.accepted));
        stored = subst (λ (x : State). IsStored new.keeping (replay x desk'.history).tables) same_start stored;
        told = told;
      }

-- where the keeper failed, its count rose
pub keeper_failed : (asks : Collecting) (before place : ℕ) (old new : Book) (outcome : Result ℕ (Result Reply OrderFault)) → Came asks before old new place (λ acts. EndsWith asks acts outcome)
    → outcome ≡ Err (Err fault.Store) → Rose old.holds.keeping.faults new.holds.keeping.faults
keeper_failed asks before place old new outcome came is =
    let ends = subst (EndsWith asks came.acts) is came.ends in
    grew_rose old.holds.keeping.faults new.holds.keeping.faults (failures fault.Store came.acts) came.ordered_of.later.counts.store
    (failed_once came.acts ends.earlier ends.last ends.acts_are (sym ends.answer_is)) came.ordered_of.store

-- what the program's objects tell once the login was read, the clock was asked and the tables were loaded
abbrev behind : Outside → Inlet → Keeping → Option (List ℕ) → Outside
behind old inlet begun moments = record old { inlet = inlet; holds = record old.holds { keeping = begun }; moments = moments }

-- it was collected, or memory ran out before
abbrev CollectsOrNot : Law → Collecting → Tables → Outside → Outside → ℕ → Type 0
CollectsOrNot law asks t mid new status = CollectsOn law asks t mid.holds new.holds mid.outlet new.outlet status ⊎ ((status ≡ 7) × (new ≡ mid))

module _ (law : Law) (n g : ℕ) (may_leave : List Row → Type 0) (old new : Outside) (inlet : Inlet) (begun : Keeping) (moments : Option (List ℕ)) (moment status : ℕ) (login : List ℕ) (t : Tables) (asks : Collecting) where
  pub collects_by : asks ≡ collecting_by login n g → ReadsLogin old.inlet login → Ticks old.moments moments moment → AreLoaded old.holds.keeping begun t × IsStored begun t × IsWellFormed (opened t)
      → old.holds.keeping.faults ≤ begun.faults → RowsFollow old.holds.keeping begun (λ rows. rows)
      → CollectsOrNot law asks (record t { moment = moment }) (behind old inlet begun moments) new status → OutliveStops new.holds.keeping may_leave
      → new ≡ record (behind old inlet begun moments) { outlet = new.outlet; holds = new.holds } → Collects law n g may_leave old new status ⊎ CollectsNone old new status
  collects_by asks_is read ticks loaded counts kept (inl on) outlive others =
      let inlets : new.inlet ≡ inlet = ap (λ (o : Outside). o.inlet) others in
      let moved : new.moments ≡ moments = ap (λ (o : Outside). o.moments) others in
      inl (record {
        login = login;
        read = read;
        moment = moment;
        ticks = subst (λ (m : Option (List ℕ)). Ticks old.moments m moment) (sym moved) ticks;
        tables = t;
        begun = begun;
        loaded = loaded.0;
        stored = loaded.1;
        counts = counts;
        collected = subst (λ (a : Collecting). CollectsOn law a (record t { moment = moment }) (record old.holds { keeping = begun }) new.holds old.outlet new.outlet status) asks_is on;
        outlive = outlive;
        others = subst (λ (i : Inlet). new ≡ record old { inlet = i; outlet = new.outlet; holds = new.holds; moments = new.moments }) (sym inlets)
            (subst (λ (m : Option (List ℕ)). new ≡ record old { inlet = inlet; outlet = new.outlet; holds = new.holds; moments = m }) (sym moved) others);
      })
  collects_by asks_is read ticks loaded counts kept (inr (seven, same)) outlive others =
      inr (subst (λ (o : Outside). CollectsNone old o status) (sym same) (record { cause = inr (inr (inr seven)); kept = kept; others = refl }))

  -- the counts only rise on the way, so what rose since then rose since the start
  pub cause_by : old.inlet.faults ≤ inlet.faults → old.holds.keeping.faults ≤ begun.faults → CollectsOrNot law asks t (behind old inlet begun moments) new status
      → new ≡ record (behind old inlet begun moments) { outlet = new.outlet; holds = new.holds } → HasStatusCause (behind old inlet begun moments) new status → HasStatusCause old new status
  cause_by reads loads collected others cause =
      let read_on : inlet.faults ≤ new.inlet.faults = omega (arith, ap (λ (o : Outside). o.inlet.faults) others) in
      let kept_on : begun.faults ≤ new.holds.keeping.faults = elim collected [ inl on ↦ on.came.ordered_of.later.counts.store | inr not ↦ omega (arith, ap (λ (o : Outside). o.holds.keeping.faults) not.1) ] in
      record {
        taken = λ four. elim (cause.taken four) [ inl rose ↦ inl (rose_more old.inlet.faults inlet.faults new.inlet.faults reads read_on rose) | inr any ↦ inr any ];
        written = cause.written;
        stored = λ nine. elim (cause.stored nine) [ inl rose ↦ inl (rose_more old.holds.keeping.faults begun.faults new.holds.keeping.faults loads kept_on rose) | inr drawn ↦ inr drawn ];
      }
