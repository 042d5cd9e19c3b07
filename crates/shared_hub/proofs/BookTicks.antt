-- What the book of a hub tells of a tick.
use Rattle.std.proofs.Common.{◌≡◌, ◌≢◌, ◌≤◌, ◌++◌, ℕ, Bool, true, false, List, Result, Ok, Err, length, refl, arith}
use Rattle.desk_base.specs.Terms.{Event, replay}
use Rattle.epoch_gate.specs.Books.{Acts}
use Rattle.host_base.specs.declared.bytes.Memory.{Memory}
use Rattle.hub_core.specs.Book.{Ticked}
use Rattle.hub_core.specs.Sharing.{Sharing, book_of}
use Rattle.hub_core.specs.Ticking.{added_by}
use Rattle.site_caps.specs.Law.{Law}
use Rattle.shared_hub.specs.Wanting.{AnswersTick, no_faults}
use Rattle.shared_hub.proofs.BookOrders.{adds_at, count_is, front_is}

-- a tick adds one entry at the most
one_tick : (m : ℕ) (answer : Result Bool Memory) → length (added_by m answer) ≤ 1
one_tick m (Ok true) = omega arith
one_tick m (Ok false) = omega arith
one_tick m (Err memory) = omega arith

module _ {K : Type 0} (law : Law) (old new : Sharing K) (m : ℕ) (answer : Result Bool Memory) where
  -- what a tick that was answered at the end of a history adds to it
  pub tick_adds : (t : Ticked (book_of law old) (book_of law new) m (length old.history) answer) → new.history ≡ old.history ++ added_by m answer
  tick_adds t = adds_at old.history new.history t.later.more t.before (added_by m answer) t.rest t.later.seen t.seen t.place_is t.accepted

  abbrev Answers : List Event → Type 0
  Answers added = AnswersTick (replay old.start old.history) m answer added no_faults

  -- a tick that was answered at the end of the history is answered so by the book
  pub ticks_by : (more : Bool) → (more ≡ true → length new.history ≢ length old.history) → (more ≡ false → length new.history ≡ length old.history)
      → Ticked (book_of law old) (book_of law new) m (length old.history) answer → Acts old.history new.history more Answers
  ticks_by more grew stood t =
      let same = front_is old.history new.history t.later.more t.before (added_by m answer) t.rest t.later.seen t.seen t.place_is in (
        added_by m answer,
        tick_adds t,
        count_is more (added_by m answer) (one_tick m answer) (λ is none. grew is (omega (arith, t.accepted, none))) (λ is. (let stands = stood is in omega (arith, t.accepted, stands))),
        record {
          formed = rw (same, ← t.later.start) t.formed;
          answered = rw (same, ← t.later.start) t.answered;
          added_is = refl;
          unfaulted = refl;
        },
      )
