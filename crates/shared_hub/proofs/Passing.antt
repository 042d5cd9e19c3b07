-- What a desk tells of a call of its pass.
use Rattle.std.proofs.Common.{◌≡◌, ◌<◌, ◌≤◌, ◌+◌, ◌++◌, ℕ, Bool, true, false, List, [], ◌∷◌, Option, Some, None, Result, Ok, Err, length, refl, sym, ◌∙◌, ap, subst, arith, append_assoc, append-nil, length-append, take}
use Rattle.std.specs.Prelude.{option_map, slice_get, nat_lt, if◌then◌else◌}
use Rattle.std.proofs.lemmas.Bool.Decides.{nat_tests}
use Rattle.std.proofs.lemmas.List.{take_at}
use Rattle.lru.specs.LruCache.{LruCache}
use mathlib.Core.List.{IsPrefix}
use Rattle.host_base.specs.declared.bytes.Memory.{Memory}
use Rattle.host_base.specs.declared.key.Key.{Key}
use Rattle.host_base.specs.declared.verdict.Verdict.{Verdict}
use Rattle.share_graph.specs.declared.event.Event.{Event}
use Rattle.share_graph.specs.declared.state.State.{State}
use Rattle.share_graph.specs.History.{replay}
use Rattle.site_caps.specs.Answering.{GivesText}
use Rattle.site_caps.specs.Law.{Law}
use Rattle.site_caps.specs.declared.fault.SiteFault.{SiteFault}
use Rattle.desk_orders.specs.Answers.{IsAnswer}
use Rattle.desk_orders.specs.Commands.{Asked}
use Rattle.desk_orders.specs.Secrets.{DrawsAll}
use Rattle.desk_orders.specs.declared.reply.OrderFault.{OrderFault}
use Rattle.desk_orders.specs.declared.reply.OrderFault.TheVariants as fault
use Rattle.desk_orders.specs.declared.reply.Reply.{Reply}
use Rattle.hub_core.specs.Book.{Book, GoesOn, Later, TakesNone, Judged, IsCounted, Ordered, Ticked}
use Rattle.hub_core.specs.Ticking.{NeverBack, added_by}
use Rattle.shared_hub.specs.Wanting.{AnswersWanted, ShowsVerdict, faults_of}
use Rattle.shared_hub.specs.declared.history.Told.{Told}
use Rattle.shared_hub.specs.declared.history.Told.TheVariants as told
use Rattle.shared_hub.specs.declared.history.Wanted.{Wanted}
use Rattle.shared_hub.specs.declared.history.Wanted.TheVariants as wanted
use Rattle.epoch_gate.specs.Counting.{AnsweredAt, counts_after, raised}
use Rattle.epoch_gate.specs.Passes.{Passing, IsFirst}
use Rattle.epoch_gate.specs.declared.book.Faults.{Faults}
use Rattle.epoch_gate.specs.declared.fault_counts.FaultCounts.{FaultCounts}
use Rattle.epoch_gate.specs.declared.kept.Kept.{Kept}
use Rattle.shared_hub.specs.Passing.{book_by}

draws_unknown : (drawn : List (List ℕ)) → DrawsAll None None drawn
draws_unknown [] = refl
draws_unknown (secret ∷ rest) = (None, λ old is. absurd (cc is), draws_unknown rest)

prefix_length : (xs ys : List Event) → IsPrefix xs ys → length xs ≤ length ys
prefix_length xs ys p = omega (arith, sym (ap length p.1) ∙ length-append xs p.0)

raised_by : (n : ℕ) (b : Bool) → n ≤ (if b then n + 1 else n)
raised_by n true = omega arith
raised_by n false = omega arith

-- a count doesn't fall
raised_on : (n : ℕ) (b : Bool) → n ≤ raised n b
raised_on n true = raised_by n (nat_lt n 18446744073709551615)
raised_on n false = omega arith

rose_by : (n : ℕ) (b : Bool) → nat_lt n 18446744073709551615 ≡ b → n < 18446744073709551615 → n < (if b then n + 1 else n)
rose_by n true is less = omega arith
rose_by n false is less = absurd (let not : 18446744073709551615 ≤ n = grind (arith, nat_tests) in omega (arith, not, less))

rose_raised : (n : ℕ) → n < 18446744073709551615 → n < raised n true
rose_raised n less = rose_by n (nat_lt n 18446744073709551615) refl less

module _ (law : Law) (start : State) (old new : Passing Event Verdict) where
  abbrev Here : Passing Event Verdict → Book
  Here p = book_by law start p

  later_by : (more : List Event) (faults : Faults) → new.seen ≡ old.seen ++ more → new.faults ≡ counts_after old.faults faults → Later (Here old) (Here new)
  later_by more faults seen counts = record {
    law = refl;
    start = refl;
    more = more;
    seen = seen;
    counts = record {
      store = subst (λ (c : FaultCounts). old.faults.store ≤ c.store) (sym counts) (raised_on old.faults.store faults.store);
      secrets = subst (λ (c : FaultCounts). old.faults.secrets ≤ c.secrets) (sym counts) (raised_on old.faults.secrets faults.secrets);
      starts = subst (λ (c : FaultCounts). old.faults.starts ≤ c.starts) (sym counts) (raised_on old.faults.starts faults.starts);
      clean = λ is. is;
    };
    stored = λ _. record { told = λ rows is. absurd (cc is) };
  }

  -- a call that counts nothing takes no command
  pub none_taken : IsPrefix old.seen new.seen → new.orders ≡ old.orders → new.faults ≡ old.faults → TakesNone (Here old) (Here new)
  none_taken begins orders faults = record {
    later = record {
      law = refl;
      start = refl;
      more = begins.0;
      seen = sym begins.1;
      counts = record {
        store = omega (arith, ap (λ (c : FaultCounts). c.store) faults);
        secrets = omega (arith, ap (λ (c : FaultCounts). c.secrets) faults);
        starts = omega (arith, ap (λ (c : FaultCounts). c.starts) faults);
        clean = λ is. is;
      };
      stored = λ _. record { told = λ rows is. absurd (cc is) };
    };
    accepted = orders;
    undrawn = refl;
    untold = record { starts = refl; stops = refl };
  }

  -- the verdict at the end of what is seen now
  pub judged_now : (key : Key) (verdict : Verdict) (n : ℕ) → IsPrefix old.seen new.seen → n ≡ length new.seen → ShowsVerdict start new.seen key verdict → Judged (length old.seen) (Here new) key n verdict
  judged_now key verdict n begins n_is shown = record {
    before = new.seen;
    rest = [];
    seen = sym (append-nil new.seen);
    place_is = n_is;
    low_is = omega (arith, n_is, prefix_length old.seen new.seen begins);
    formed = shown.0;
    verdict_is = shown.1;
  }

  -- up to a place of what is seen now
  goes_on : (place : ℕ) (before added : List Event) → new.seen ≡ before ++ added → place ≡ length before → NeverBack start before → GoesOn (Here new) place
  goes_on place before added seen place_is onward =
      subst (λ (xs : List Event). NeverBack start xs) (sym (ap (λ (xs : List Event). take place xs) seen ∙ take_at before added place (sym place_is))) onward

  -- and up to its end
  pub goes_on_now : (n : ℕ) → n ≡ length new.seen → NeverBack start new.seen → GoesOn (Here new) n
  goes_on_now n n_is onward = goes_on n new.seen [] (sym (append-nil new.seen)) n_is onward

  counted_by : (answer : Result Reply OrderFault) (faults : Faults) → faults ≡ faults_of answer → new.faults ≡ counts_after old.faults faults → IsCounted (Here old).holds (Here new).holds answer
  counted_by (Err fault.Store) faults is counts = λ less. subst (λ (c : FaultCounts). old.faults.store < c.store) (sym (counts ∙ ap (counts_after old.faults) is)) (rose_raised old.faults.store less)
  counted_by (Err fault.Secrets) faults is counts = λ less. subst (λ (c : FaultCounts). old.faults.secrets < c.secrets) (sym (counts ∙ ap (counts_after old.faults) is)) (rose_raised old.faults.secrets less)
  counted_by (Err fault.Start) faults is counts = λ less. subst (λ (c : FaultCounts). old.faults.starts < c.starts) (sym (counts ∙ ap (counts_after old.faults) is)) (rose_raised old.faults.starts less)
  counted_by (Err fault.Memory) faults is counts = tt
  counted_by (Ok reply) faults is counts = tt

  abbrev pub Given : ℕ → Wanted → Told → Type 0
  Given place asked answer = (faults : Faults) × (new.faults ≡ counts_after old.faults faults)
      × AnsweredAt old.seen new.seen old.orders new.orders place (λ before added. AnswersWanted law start before asked answer added faults)

  -- an order that was answered at a place
  pub ordered_at : (place : ℕ) (order : Asked) (answer : Result Reply OrderFault) → Given place (wanted.Order order) (told.Reply answer) → Ordered (Here old) (Here new) order place answer
  ordered_at place order answer (faults, counts, (before, added, seen, begins, place_is, orders, (lawful, onward))) = record {
    drawn = lawful.drawn;
    added = added;
    app = lawful.app;
    later = later_by (begins.0 ++ added) faults (seen ∙ ap (λ w. w ++ added) (sym begins.1) ∙ append_assoc old.seen begins.0 added) counts;
    placed = record {
      before = before;
      rest = [];
      seen = seen ∙ sym (append-nil (before ++ added));
      place_is = place_is;
      low_is = omega (arith, place_is, prefix_length old.seen before begins);
      formed = lawful.formed;
      found = lawful.found;
      found_is = lawful.found_is;
      lawful = subst (λ n. IsAnswer law (replay start before) n lawful.found order answer lawful.drawn added) (sym place_is) lawful.lawful;
      apps = lawful.apps;
    };
    accepted = orders;
    draws = draws_unknown lawful.drawn;
    spawned = record { starts = λ told is. absurd (cc is); stops = λ told is. absurd (cc is) };
    tokens = lawful.tokens;
    counted = counted_by answer faults lawful.faults_are counts;
  }

  -- the same of what was told
  pub ordered_from : (place : ℕ) (order : Asked) (answer : Result Reply OrderFault) (told' : Told) → told' ≡ told.Reply answer → Given place (wanted.Order order) told' → Ordered (Here old) (Here new) order place answer
  ordered_from place order answer told' is given = ordered_at place order answer (subst (λ t. Given place (wanted.Order order) t) is given)

  order_goes_on : (place : ℕ) (order : Asked) (answer : Result Reply OrderFault) → Given place (wanted.Order order) (told.Reply answer) → GoesOn (Here new) place
  order_goes_on place order answer (faults, counts, (before, added, seen, begins, place_is, orders, (lawful, onward))) = goes_on place before added seen place_is onward

  pub order_goes_from : (place : ℕ) (order : Asked) (answer : Result Reply OrderFault) (told' : Told) → told' ≡ told.Reply answer → Given place (wanted.Order order) told' → GoesOn (Here new) place
  order_goes_from place order answer told' is given = order_goes_on place order answer (subst (λ t. Given place (wanted.Order order) t) is given)

  -- a tick that was answered at a place
  ticked_at : (place m : ℕ) (answer : Result Bool Memory) → Given place (wanted.Tick m) (told.Ticked answer) → Ticked (Here old) (Here new) m place answer
  ticked_at place m answer (faults, counts, (before, added, seen, begins, place_is, orders, (lawful, onward))) = record {
    before = before;
    rest = [];
    later = later_by (begins.0 ++ added) faults (seen ∙ ap (λ w. w ++ added) (sym begins.1) ∙ append_assoc old.seen begins.0 added) counts;
    seen = seen ∙ ap (λ (xs : List Event). before ++ xs) lawful.added_is ∙ sym (append-nil (before ++ added_by m answer));
    place_is = place_is;
    low_is = omega (arith, place_is, prefix_length old.seen before begins);
    formed = lawful.formed;
    answered = lawful.answered;
    accepted = orders ∙ ap (λ (xs : List Event). old.orders + length xs) lawful.added_is;
    undrawn = refl;
    untold = record { starts = refl; stops = refl };
  }

  tick_goes_on : (place m : ℕ) (answer : Result Bool Memory) → Given place (wanted.Tick m) (told.Ticked answer) → GoesOn (Here new) place
  tick_goes_on place m answer (faults, counts, (before, added, seen, begins, place_is, orders, (lawful, onward))) = goes_on place before added seen place_is onward

  -- the same of what was told
  pub ticked_from : (place m : ℕ) (answer : Result Bool Memory) (told' : Told) → told' ≡ told.Ticked answer → Given place (wanted.Tick m) told' → Ticked (Here old) (Here new) m place answer
  ticked_from place m answer told' is given = ticked_at place m answer (subst (λ t. Given place (wanted.Tick m) t) is given)

  pub tick_goes_from : (place m : ℕ) (answer : Result Bool Memory) (told' : Told) → told' ≡ told.Ticked answer → Given place (wanted.Tick m) told' → GoesOn (Here new) place
  tick_goes_from place m answer told' is given = tick_goes_on place m answer (subst (λ t. Given place (wanted.Tick m) t) is given)

  -- what a site gives, and that it takes no command
  pub given_at : (place tag item : ℕ) (answer : Result (List ℕ) SiteFault) → Given place (wanted.Site tag item) (told.Site answer) → TakesNone (Here old) (Here new) × GivesText law tag item answer
  given_at place tag item answer (faults, counts, (before, added, seen, begins, place_is, orders, (none, faults_are, gives))) = (
    record {
      later = later_by (begins.0 ++ added) faults (seen ∙ ap (λ w. w ++ added) (sym begins.1) ∙ append_assoc old.seen begins.0 added) counts;
      accepted = omega (arith, orders, ap length none);
      undrawn = refl;
      untold = record { starts = refl; stops = refl };
    },
    gives,
  )

-- the view that is lent is that of the cache's first entry
abbrev second_of : Option (ℕ × Verdict) → Verdict → Verdict
second_of (Some p) verdict = p.1
second_of None verdict = verdict

module _ {X : Type 0} (now : X → Verdict) (cache : LruCache Key (Kept Verdict)) (n : ℕ) (rest : Verdict → Type 0) where
  pub first_lent : (result : Option (ℕ × X)) (m : ℕ) (x : X) → IsFirst cache n rest → result ≡ Some (m, x)
      → option_map {U = ℕ × Verdict} (λ r. (r.0, now r.1)) result ≡ option_map (λ e. (e.1.number, e.1.view)) (slice_get cache.entries 0) → rest (now x)
  first_lent result m x (key, view, at, holds) is lent =
      let mine : Option (ℕ × Verdict) = Some (m, now x) in
      let theirs : Option (ℕ × Verdict) = Some (n, view) in
      let same : mine ≡ theirs = sym (ap (λ (r : Option (ℕ × X)). option_map {U = ℕ × Verdict} (λ r. (r.0, now r.1)) r) is) ∙ lent ∙ ap (λ (o : Option (Key × Kept Verdict)). option_map {U = ℕ × Verdict} (λ e. (e.1.number, e.1.view)) o) at in
      subst rest (sym (ap (λ (o : Option (ℕ × Verdict)). second_of o view) same)) holds
