-- A tick, and then an answer of the desk beneath: what the desk with the clock tells.
use Rattle.std.proofs.Common.{◌≡◌, ◌∙◌, ◌⊎◌, ◌<◌, ◌≤◌, ◌-◌, ◌+◌, ◌++◌, ◌∷◌, [], ℕ, zero, suc, Bool, true, false, List, Option, Some, None, Result, Ok, Err, length, slice_get, take, All, refl, sym, ap, subst, arith, append_assoc, length-append, inl, inr}
use Rattle.std.specs.Prelude.{IfOk}
use Rattle.std.proofs.Math.Seq.{take-append-add, take-append_seam}
use Rattle.std.proofs.lemmas.List.Elements.{All-cons, All-nil}
use Rattle.std.proofs.lemmas.List.Sums.{sum_by-append, sum_by-le}
use Rattle.host_base.specs.declared.bytes.Memory.{Memory}
use Rattle.desk_base.specs.Terms.{Event, Key, replay, Rose, State, Verdict}
use Rattle.desk_orders.specs.Commands.{Asked}
use Rattle.desk_orders.specs.Secrets.{DrawsAll}
use Rattle.desk_orders.specs.declared.reply.OrderFault.{OrderFault}
use Rattle.desk_orders.specs.declared.reply.OrderFault.TheVariants as fault
use Rattle.desk_orders.specs.declared.reply.Reply.{Reply}
use Rattle.host_base.specs.Drawing.{Coming}
use Rattle.share_graph.specs.declared.event.Event.TheVariants as event
use Rattle.hub_core.proofs.Adding.{told_nothing}
use Rattle.hub_core.specs.Book.{Backing, Book, CountsOn, GoesOn, IsCounted, Judged, Later, Ordered, TakesNone, Ticked}
use Rattle.hub_core.specs.Ticking.{IsTick, added_by}
use Rattle.tick_desk.specs.declared.tick_desk.LastTick.{LastTick}
use Rattle.tick_desk.specs.Clocked.{without, tick_of, ticks_in, WasTicked, KnowsLast, last_after, HasTicked, StaysTicked, CountsTicks, IsOnTime, UnlessMemory}
use Rattle.tick_desk.proofs.OnTime.{on_time}

-- ---- seeing further

counts_trans : (old mid new : Backing) → CountsOn old mid → CountsOn mid new → CountsOn old new
counts_trans old mid new a b = record {
  store = omega (arith, a.store, b.store);
  secrets = omega (arith, a.secrets, b.secrets);
  starts = omega (arith, a.starts, b.starts);
  clean = λ is. a.clean (b.clean is);
}

later_trans : (old mid new : Book) → Later old mid → Later mid new → Later old new
later_trans old mid new a b = record {
  law = b.law ∙ a.law;
  start = b.start ∙ a.start;
  more = a.more ++ b.more;
  seen = b.seen ∙ ap (λ (xs : List Event). xs ++ b.more) a.seen ∙ append_assoc old.seen a.more b.more;
  counts = counts_trans old.holds mid.holds new.holds a.counts b.counts;
  stored = λ has. b.stored (a.stored has);
}

-- how many of its own ticks are left out makes no difference to that
later_without : (k n : ℕ) (old new : Book) → Later old new → Later (without k old) (without n new)
later_without k n old new l = record { law = l.law; start = l.start; more = l.more; seen = l.seen; counts = l.counts; stored = l.stored }

longer : (old new : Book) → Later old new → length old.seen ≤ length new.seen
longer old new l = omega (arith, ap length l.seen, length-append old.seen l.more)

-- ---- the last tick

still_ticked : (old new : Book) (tick : LastTick) → Later old new → WasTicked old tick → WasTicked new tick
still_ticked old new tick l was = record {
  before = was.before;
  rest = was.rest ++ l.more;
  answer = was.answer;
  seen = l.seen ∙ ap (λ (xs : List Event). xs ++ l.more) was.seen ∙ append_assoc (was.before ++ added_by tick.moment (Ok was.answer)) was.rest l.more;
  place_is = was.place_is;
  answered = subst (λ (start : State). IsTick (replay start was.before) tick.moment (Ok was.answer)) (sym l.start) was.answered;
}

pub still_known : (old new : Book) (last : Option LastTick) → Later old new → KnowsLast old last → KnowsLast new last
still_known old new None l known = tt
still_known old new (Some tick) l known = still_ticked old new tick l known

pub known_after : (old new : Book) (m place : ℕ) (answer : Result Bool Memory) (last : Option LastTick) → Ticked old new m place answer
    → KnowsLast old last → KnowsLast new (last_after last m place answer)
known_after old new m place (Ok changed) last t known =
    record { before = t.before; rest = t.rest; answer = changed; seen = t.seen; place_is = t.place_is; answered = t.answered }
known_after old new m place (Err memory) last t known = still_known old new last t.later known

-- ---- how many of the entries are ticks

one_few : (e : Event) → tick_of e ≤ 1
one_few (event.Ticked m) = omega arith
one_few _ = omega arith

all_few : (entries : List Event) → All (λ (e : Event). tick_of e ≤ 1) entries
all_few [] = All-nil (λ (e : Event). tick_of e ≤ 1)
all_few (e ∷ entries) = All-cons (λ (x : Event). tick_of x ≤ 1) e entries (one_few e) (all_few entries)

pub ticks_few : (entries : List Event) → ticks_in entries ≤ length entries
ticks_few entries = let few = sum_by-le tick_of 1 entries (all_few entries) in omega (arith, few)

-- what a tick added is a tick
ticks_added : (m : ℕ) (answer : Result Bool Memory) → ticks_in (added_by m answer) ≡ length (added_by m answer)
ticks_added m (Ok true) = refl
ticks_added m (Ok false) = refl
ticks_added m (Err memory) = refl

-- what stood before a tick begins with what was seen before
begins : (old new : Book) (m place : ℕ) (answer : Result Bool Memory) (t : Ticked old new m place answer)
    → t.before ≡ old.seen ++ take (length t.before - length old.seen) t.later.more
begins old new m place answer t =
    let split : length old.seen + (length t.before - length old.seen) ≡ length t.before = omega (arith, t.low_is, t.place_is) in
    sym (take-append_seam t.before (added_by m answer ++ t.rest))
    ∙ ap (take (length t.before)) (sym (append_assoc t.before (added_by m answer) t.rest) ∙ sym t.seen ∙ t.later.seen)
    ∙ ap (λ (n : ℕ). take n (old.seen ++ t.later.more)) (sym split)
    ∙ take-append-add old.seen t.later.more (length t.before - length old.seen)

pub within_after : (old new : Book) (m place k : ℕ) (answer : Result Bool Memory) → Ticked old new m place answer → k ≤ ticks_in old.seen
    → k + length (added_by m answer) ≤ ticks_in new.seen
within_after old new m place k answer t le =
    omega (
      arith,
      le,
      ap ticks_in t.seen,
      sum_by-append tick_of (t.before ++ added_by m answer) t.rest,
      sum_by-append tick_of t.before (added_by m answer),
      ap ticks_in (begins old new m place answer t),
      sum_by-append tick_of old.seen (take (length t.before - length old.seen) t.later.more),
      ticks_added m answer,
    )

pub counted_after : (old new : Book) (m place k : ℕ) (answer : Result Bool Memory) → Ticked old new m place answer → k ≤ old.accepted → k + length (added_by m answer) ≤ new.accepted
counted_after old new m place k answer t le = omega (arith, t.accepted, le)

-- ---- an answer behind a tick

rose_on : (old mid new : ℕ) → old ≤ mid → mid ≤ new → Rose mid new → Rose old new
rose_on old mid new a b rose small =
    let sides : (mid < 18446744073709551615) ⊎ (18446744073709551615 ≤ mid) = grind arith in
    elim sides [
      | inl less ↦ (let up = rose less in omega (arith, a, up))
      | inr full ↦ omega (arith, small, full, b)
    ]

counted_on : (old mid new : Backing) (answer : Result Reply OrderFault) → CountsOn old mid → CountsOn mid new → IsCounted mid new answer → IsCounted old new answer
counted_on old mid new (Ok r) a b counted = tt
counted_on old mid new (Err fault.Store) a b counted = rose_on old.keeping.faults mid.keeping.faults new.keeping.faults a.store b.store counted
counted_on old mid new (Err fault.Secrets) a b counted = rose_on old.drawer.faults mid.drawer.faults new.drawer.faults a.secrets b.secrets counted
counted_on old mid new (Err fault.Start) a b counted = rose_on old.spawns.faults mid.spawns.faults new.spawns.faults a.starts b.starts counted
counted_on old mid new (Err fault.Memory) a b counted = tt

judged_through : (old mid : Book) (m place : ℕ) (answer : Result Bool Memory) → Ticked old mid m place answer → (new : Book) (j : ℕ) (key : Key) (at : ℕ)
    (verdict : Verdict) → Judged (length mid.seen) new key at verdict → Judged (length old.seen) (without j new) key at verdict
judged_through old mid m place answer t new j key at verdict is = record {
  before = is.before;
  rest = is.rest;
  seen = is.seen;
  place_is = is.place_is;
  low_is = omega (arith, is.low_is, longer old mid t.later);
  formed = is.formed;
  verdict_is = is.verdict_is;
}

module _ (old mid : Book) (m place k : ℕ) (answer : Result Bool Memory) (t : Ticked old mid m place answer) (le : k ≤ old.accepted) where
  abbrev n : ℕ
  n = length (added_by m answer)

  pub none_through : (new : Book) → TakesNone mid new → TakesNone (without k old) (without (k + n) new)
  none_through new none = record {
    later = later_without k (k + n) old new (later_trans old mid new t.later none.later);
    accepted = omega (arith, t.accepted, none.accepted, le);
    undrawn = none.undrawn ∙ t.undrawn;
    untold = record { starts = none.untold.starts ∙ t.untold.starts; stops = none.untold.stops ∙ t.untold.stops };
  }

  pub none_ticked : TakesNone (without k old) (without (k + n) mid)
  none_ticked = record {
    later = later_without k (k + n) old mid t.later;
    accepted = omega (arith, t.accepted, le);
    undrawn = t.undrawn;
    untold = t.untold;
  }

  pub ordered_through : (new : Book) (order : Asked) (at : ℕ) (given : Result Reply OrderFault) → Ordered mid new order at given → Ordered (without k old) (without (k + n) new) order at given
  ordered_through new order at given o = record {
    drawn = o.drawn;
    added = o.added;
    app = o.app;
    later = later_without k (k + n) old new (later_trans old mid new t.later o.later);
    placed = record {
      before = o.placed.before;
      rest = o.placed.rest;
      seen = o.placed.seen;
      place_is = o.placed.place_is;
      low_is = omega (arith, o.placed.low_is, longer old mid t.later);
      formed = o.placed.formed;
      found = o.placed.found;
      found_is = o.placed.found_is;
      lawful = o.placed.lawful;
      apps = o.placed.apps;
    };
    accepted = omega (arith, t.accepted, o.accepted, le);
    draws = subst (λ (coming : Option Coming). DrawsAll coming new.holds.drawer.coming o.drawn) t.undrawn o.draws;
    spawned = record {
      starts = λ told was. o.spawned.starts told (t.untold.starts ∙ was);
      stops = λ told was. o.spawned.stops told (t.untold.stops ∙ was);
    };
    tokens = o.tokens;
    counted = counted_on old.holds mid.holds new.holds given t.later.counts o.later.counts o.counted;
  }

-- want of memory at the tick is want of memory of the order
pub ordered_without : (old mid : Book) (m place k : ℕ) (memory : Memory) → Ticked old mid m place (Err memory) → (order : Asked)
    → Ordered (without k old) (without k mid) order place (Err fault.Memory)
ordered_without old mid m place k memory t order = record {
  drawn = [];
  added = [];
  app = record { 0 = 0 };
  later = later_without k k old mid t.later;
  placed = record {
    before = t.before;
    rest = t.rest;
    seen = t.seen;
    place_is = t.place_is;
    low_is = t.low_is;
    formed = t.formed;
    found = None;
    found_is = tt;
    lawful = (refl, tt);
    apps = tt;
  };
  accepted = omega (arith, t.accepted);
  draws = t.undrawn;
  spawned = told_nothing old.holds.spawns mid.holds.spawns (record { 0 = 0 }) [] t.untold.starts t.untold.stops;
  tokens = tt;
  counted = tt;
}

-- ---- the desk beneath alone

pub none_same : (old new : Book) (k : ℕ) → TakesNone old new → TakesNone (without k old) (without k new)
none_same old new k none = record {
  later = later_without k k old new none.later;
  accepted = omega (arith, none.accepted);
  undrawn = none.undrawn;
  untold = none.untold;
}

pub judged_same : (low k : ℕ) (new : Book) (key : Key) (at : ℕ) (verdict : Verdict) → Judged low new key at verdict → Judged low (without k new) key at verdict
judged_same low k new key at verdict is = record {
  before = is.before;
  rest = is.rest;
  seen = is.seen;
  place_is = is.place_is;
  low_is = is.low_is;
  formed = is.formed;
  verdict_is = is.verdict_is;
}

pub ticked_same : (old new : Book) (k m place : ℕ) (answer : Result Bool Memory) → k ≤ old.accepted → Ticked old new m place answer → Ticked (without k old) (without k new) m place answer
ticked_same old new k m place answer le t = record {
  before = t.before;
  rest = t.rest;
  later = later_without k k old new t.later;
  seen = t.seen;
  place_is = t.place_is;
  low_is = t.low_is;
  formed = t.formed;
  answered = t.answered;
  accepted = omega (arith, t.accepted, le);
  undrawn = t.undrawn;
  untold = t.untold;
}

-- ---- what the clauses on the clock say

-- the entry of a tick stands at its place
entry_at : (before rest : List Event) (e : Event) → slice_get ((before ++ e ∷ []) ++ rest) (length before) ≡ Some e
entry_at [] rest e = refl
entry_at (x ∷ before) rest e = entry_at before rest e

stands_on : (seen more : List Event) (place : ℕ) (e : Event) → slice_get seen place ≡ Some e → slice_get (seen ++ more) place ≡ Some e
stands_on [] more place e is = cc is
stands_on (x ∷ seen) more zero e is = is
stands_on (x ∷ seen) more (suc place) e is = stands_on seen more place e is

ticked_entry : (old mid : Book) (m place : ℕ) → Ticked old mid m place (Ok true) → slice_get mid.seen place ≡ Some (event.Ticked m)
ticked_entry old mid m place t = rw (t.seen, t.place_is) (entry_at t.before t.rest (event.Ticked m))

-- behind a tick that was answered
pub counts_after : (old mid new : Book) (m place k : ℕ) (changed : Bool) (last : Option LastTick) → Ticked old mid m place (Ok changed) → Later mid new
    → CountsTicks m k (k + length (added_by m (Ok changed))) (last_after last m place (Ok changed)) new.seen
counts_after old mid new m place k true last t l = record {
  most = omega arith;
  entry = λ is. (
    record { moment = m; place = place },
    refl,
    rw l.seen (stands_on mid.seen l.more place (event.Ticked m) (ticked_entry old mid m place t)),
  );
}
counts_after old mid new m place k false last t l = record { most = omega arith; entry = λ is. absurd (omega (arith, is)) }

pub counts_none : (m k : ℕ) (last : Option LastTick) (seen : List Event) → CountsTicks m k k last seen
counts_none m k last seen = record { most = omega arith; entry = λ is. absurd (omega (arith, is)) }

pub has_ticked : (old mid : Book) (m place : ℕ) (changed : Bool) (last : Option LastTick) → Ticked old mid m place (Ok changed)
    → HasTicked (length old.seen) m (last_after last m place (Ok changed))
has_ticked old mid m place changed last t = (record { moment = m; place = place }, refl, refl, t.low_is)

-- at a place behind all that was seen when the last tick was known, no grant outlives its end
pub in_time : (mid new : Book) (last : Option LastTick) (place : ℕ) → (tick : LastTick) × (last ≡ Some tick) → KnowsLast mid last → Later mid new
    → length mid.seen ≤ place → GoesOn new place → IsOnTime new last place
unfolding still_ticked
in_time mid new last place (tick, some) known l low onward =
    let was : WasTicked mid tick = subst (KnowsLast mid) some known in
    let far : length (was.before ++ added_by tick.moment (Ok was.answer)) ≤ place =
    omega (arith, low, ap length was.seen, length-append (was.before ++ added_by tick.moment (Ok was.answer)) was.rest) in
    subst (λ (o : Option LastTick). IsOnTime new o place) (sym some) (on_time new tick (still_ticked mid new tick l was) place far onward)

pub in_time_ok : (mid new : Book) (last : Option LastTick) (key : Key) (r : Result (ℕ × Verdict) Memory) → (tick : LastTick) × (last ≡ Some tick)
    → KnowsLast mid last → Later mid new → IfOk r (λ x. Judged (length mid.seen) new key x.0 x.1) → IfOk r (λ x. GoesOn new x.0)
    → IfOk r (λ x. IsOnTime new last x.0)
in_time_ok mid new last key (Ok x) there known l judged onward = in_time mid new last x.0 there known l judged.low_is onward
in_time_ok mid new last key (Err memory) there known l judged onward = tt

pub judged_ok : (old mid new : Book) (m place : ℕ) (answer : Result Bool Memory) → Ticked old mid m place answer → (j : ℕ) (key : Key)
    (r : Result (ℕ × Verdict) Memory) → IfOk r (λ x. Judged (length mid.seen) new key x.0 x.1)
    → IfOk r (λ x. Judged (length old.seen) (without j new) key x.0 x.1)
judged_ok old mid new m place answer t j key (Ok x) judged = judged_through old mid m place answer t new j key x.0 x.1 judged
judged_ok old mid new m place answer t j key (Err memory) judged = tt

pub if_ok : {A E : Type 0} (r : Result A E) (P : Type 0) → P → IfOk r (λ x. P)
if_ok (Ok x) P p = p
if_ok (Err e) P p = tt

-- a tick that failed counts for nothing
pub counts_failed : (m k n : ℕ) (last : Option LastTick) (seen : List Event) → n ≡ k → CountsTicks m k n last seen
counts_failed m k n last seen same = record { most = omega (arith, same); entry = λ is. absurd (omega (arith, is, same)) }

-- ---- what the type keeps

pub stays : (old new : Book) (k : ℕ) (last : Option LastTick) → Later old new → old.accepted ≤ new.accepted
    → (k ≤ old.accepted) × (k ≤ ticks_in old.seen) × KnowsLast old last → (k ≤ new.accepted) × (k ≤ ticks_in new.seen) × KnowsLast new last
stays old new k last l le (counted, within, known) =
    (omega (arith, le, counted), omega (arith, within, ap ticks_in l.seen, sum_by-append tick_of old.seen l.more), still_known old new last l known)

pub unless_memory : (P : Type 0) (given : Result Reply OrderFault) → P → UnlessMemory given P
unless_memory P (Ok r) p = p
unless_memory P (Err fault.Store) p = p
unless_memory P (Err fault.Secrets) p = p
unless_memory P (Err fault.Start) p = p
unless_memory P (Err fault.Memory) p = tt

pub still_there : (m : ℕ) (last : Option LastTick) → StaysTicked m last last → (tick : LastTick) × (last ≡ Some tick)
still_there m last (tick, is, again, late) = (tick, is)
