-- What the book of a hub tells of an order.
use Rattle.std.proofs.Common.{◌≡◌, ◌≢◌, ◌≤◌, ◌+◌, ◌++◌, inl, inr, ℕ, Bool, true, false, List, [], Option, Result, Ok, Err, length, refl, sym, ◌∙◌, ap, arith, append_assoc, append-nil, length-append, take}
use Rattle.std.proofs.lemmas.List.{nil_from_length, take_at}
use Rattle.desk_base.specs.Terms.{Event, replay, State}
use Rattle.site_caps.specs.Law.{Law}
use Rattle.desk_orders.specs.Answers.{IsAnswer}
use Rattle.desk_orders.specs.Commands.{Asked}
use Rattle.desk_orders.specs.declared.reply.OrderFault.{OrderFault}
use Rattle.desk_orders.specs.declared.reply.OrderFault.TheVariants as fault
use Rattle.desk_orders.specs.declared.reply.Reply.{Reply}
use Rattle.desk_orders.specs.declared.reply.Reply.TheVariants as reply
use Rattle.epoch_gate.specs.Books.{Acts, count}
use Rattle.hub_core.specs.Book.{Ordered}
use Rattle.hub_core.specs.Sharing.{Sharing, book_of}
use Rattle.hub_core.specs.Spawning.{AreOfApp}
use Rattle.shared_hub.specs.Wanting.{AnswersOrder, faults_of}

same_front : (xs ys zs ws : List Event) → xs ++ ys ≡ zs ++ ws → length xs ≡ length zs → xs ≡ zs
same_front xs ys zs ws is long = sym (take_at xs ys (length zs) long) ∙ ap (take (length zs)) is ∙ take_at zs ws (length zs) refl

module _ (old new more before added rest : List Event) (longer : new ≡ old ++ more) (placed : new ≡ (before ++ added) ++ rest) (place_is : length old ≡ length before) where
  -- what was before the place at the end of a history is the history
  pub front_is : old ≡ before
  front_is = same_front old more before (added ++ rest) (sym longer ∙ placed ∙ append_assoc before added rest) place_is

  -- and nothing is behind what was added there
  pub adds_at : length new ≡ length old + length added → new ≡ old ++ added
  adds_at accepted =
      let long : length new ≡ (length before + length added) + length rest =
      ap length placed ∙ length-append (before ++ added) rest ∙ ap (λ (n : ℕ). n + length rest) (length-append before added) in
      let none : rest ≡ [] = nil_from_length rest (omega (arith, long, accepted, place_is)) in
      rw (placed, none, append-nil, front_is) refl

-- an order adds one entry at the most
at_most_one : (law : Law) (s : State) (n : ℕ) (found : Option Bool) (order : Asked) (answer : Result Reply OrderFault) (drawn : List (List ℕ)) (added : List Event)
    → IsAnswer law s n found order answer drawn added → length added ≤ 1
at_most_one law s n found order (Ok (reply.Made made text)) drawn added (changes, inl same) = omega (arith, ap length same.0)
at_most_one law s n found order (Ok (reply.Made made text)) drawn added (changes, inr one) = omega (arith, ap length one.1)
at_most_one law s n found order (Ok answer) drawn added is = omega (arith, ap length is.0)
at_most_one law s n found order (Err fault.Secrets) drawn added is = omega (arith, ap length is.0)
at_most_one law s n found order (Err fault.Start) drawn added is = omega (arith, ap length is.0)
at_most_one law s n found order (Err fault.Store) drawn added is = omega (arith, ap length is.0)
at_most_one law s n found order (Err fault.Memory) drawn added is = omega (arith, ap length is.0)

pub count_is : (more : Bool) (added : List Event) → length added ≤ 1 → (more ≡ true → length added ≢ 0) → (more ≡ false → length added ≡ 0) → length added ≡ count more
count_is true added few some none = let not = some refl in omega (arith, few, not)
count_is false added few some none = none refl

module _ {K : Type 0} (law : Law) (old new : Sharing K) (order : Asked) (answer : Result Reply OrderFault) where
  -- what an order that was answered at the end of a history adds to it
  pub adds_to : (o : Ordered (book_of law old) (book_of law new) order (length old.history) answer) → new.history ≡ old.history ++ o.added
  adds_to o =
      let p = o.placed in
      adds_at old.history new.history o.later.more p.before o.added p.rest o.later.seen p.seen p.place_is o.accepted

  -- a run that it starts is of its grain's application in the state before
  pub apps_at : (o : Ordered (book_of law old) (book_of law new) order (length old.history) answer) → AreOfApp (replay old.start old.history) o.app o.added
  apps_at o =
      let p = o.placed in
      let same : old.history ≡ p.before = front_is old.history new.history o.later.more p.before o.added p.rest o.later.seen p.seen p.place_is in
      rw (same, ← o.later.start) p.apps

  abbrev Answers : List Event → Type 0
  Answers added = AnswersOrder law (replay old.start old.history) (length old.history) order answer added (faults_of answer)

  -- an order that was answered at the end of the history is answered so by the book
  pub acts_by : (more : Bool) → (more ≡ true → length new.history ≢ length old.history) → (more ≡ false → length new.history ≡ length old.history)
      → Ordered (book_of law old) (book_of law new) order (length old.history) answer → Acts old.history new.history more Answers
  acts_by more grew stood o =
      let p = o.placed in
      let same : old.history ≡ p.before = front_is old.history new.history o.later.more p.before o.added p.rest o.later.seen p.seen p.place_is in
      let few : length o.added ≤ 1 = at_most_one law (replay new.start p.before) (length old.history) p.found order answer o.drawn o.added p.lawful in (
        o.added,
        adds_to o,
        count_is more o.added few (λ is none. grew is (omega (arith, o.accepted, none))) (λ is. (let stands = stood is in omega (arith, o.accepted, stands))),
        record {
          formed = rw (same, ← o.later.start) p.formed;
          found = p.found;
          drawn = o.drawn;
          found_is = rw (same, ← o.later.start) p.found_is;
          lawful = rw (same, ← o.later.start, ← p.place_is) p.lawful;
          faults_are = refl;
          app = o.app;
          apps = apps_at o;
          tokens = o.tokens;
        },
      )
