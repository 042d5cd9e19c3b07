-- Behind the last tick no grant outlives its end.
use Rattle.std.proofs.Common.{◌≡◌, ◌∙◌, ◌≤◌, ◌-◌, ◌+◌, ◌++◌, ◌∷◌, [], ℕ, Bool, true, false, List, Option, Some, None, Ok, length, take, sym, ap, subst, arith, append_assoc}
use Rattle.std.proofs.Math.Seq.{take-append-add, take-append_seam}
use Rattle.host_base.specs.declared.ids.GrantId.{GrantId}
use Rattle.share_graph.specs.declared.event.Event.{Event}
use Rattle.share_graph.specs.declared.event.Event.TheVariants as event
use Rattle.share_graph.specs.declared.grants.Grant.{Grant}
use Rattle.share_graph.specs.declared.state.State.{State}
use Rattle.share_graph.specs.History.{replay}
use Rattle.share_graph.specs.Rows.{IsGrant}
use Rattle.region_access.specs.Seeds.{ComesBetween}
use Rattle.state_step.proofs.AfterAll.{replay_appended}
use Rattle.hub_core.specs.Book.{Book, GoesOn}
use Rattle.hub_core.specs.Ticking.{IsTick, added_by}
use Rattle.tick_desk.specs.declared.tick_desk.LastTick.{LastTick}
use Rattle.tick_desk.specs.Clocked.{WasTicked, IsOnTime}

-- what comes between a moment and a later one comes after the first
come_already : (now m : ℕ) (expires : Option ℕ) → m ≤ now → ComesBetween now m expires → ⊥
come_already now m None late comes = comes
come_already now m (Some end) late (low, high) = omega (arith, late, low, high)

comes_earlier : (was now m : ℕ) (expires : Option ℕ) → was ≤ now → ComesBetween now m expires → ComesBetween was m expires
comes_earlier was now m None le comes = comes
comes_earlier was now m (Some end) le (low, high) = (omega (arith, le, low), high)

-- where a tick was answered, no grant that stood comes to its end between the clock's later moments and that of the tick
none_comes : (start : State) (before : List Event) (m now : ℕ) (answer : Bool) → IsTick (replay start before) m (Ok answer)
    → (replay start (before ++ added_by m (Ok answer))).tables.moment ≤ now → (replay start before).tables.moment ≤ now
    → (g : GrantId) (grant : Grant) → IsGrant (replay start before).tables g grant → ComesBetween now m grant.expires → ⊥
none_comes start before m now true ticked front first g grant is comes =
    let at : (replay start (before ++ event.Ticked m ∷ [])).tables.moment ≡ m = ap (λ (s : State). s.tables.moment) (replay_appended start before (event.Ticked m)) in
    come_already now m grant.expires (omega (arith, front, at)) comes
none_comes start before m now false none front first g grant is comes =
    none (g, grant, record { is_row = is; ends = comes_earlier (replay start before).tables.moment now m grant.expires first comes })

module _ (book : Book) (tick : LastTick) (was : WasTicked book tick) (place : ℕ) (late : length (was.before ++ added_by tick.moment (Ok was.answer)) ≤ place)
    (onward : GoesOn book place) where
  abbrev front : List Event
  front = was.before ++ added_by tick.moment (Ok was.answer)

  abbrev behind : List Event
  behind = take (place - length front) was.rest

  upto : take place book.seen ≡ front ++ behind
  upto =
      let split : length front + (place - length front) ≡ place = omega (arith, late) in
      ap (take place) was.seen ∙ ap (λ (n : ℕ). take n (front ++ was.rest)) (sym split) ∙ take-append-add front was.rest (place - length front)

  abbrev now : ℕ
  now = (replay book.start (take place book.seen)).tables.moment

  stood : take tick.place book.seen ≡ was.before
  stood =
      ap (λ (n : ℕ). take n book.seen) was.place_is
      ∙ ap (take (length was.before)) (was.seen ∙ append_assoc was.before (added_by tick.moment (Ok was.answer)) was.rest)
      ∙ take-append_seam was.before (added_by tick.moment (Ok was.answer) ++ was.rest)

  pub on_time : IsOnTime book (Some tick) place
  on_time g grant is comes =
      none_comes book.start was.before tick.moment now was.answer was.answered (onward front behind upto)
      (onward was.before (added_by tick.moment (Ok was.answer) ++ behind) (upto ∙ append_assoc was.before (added_by tick.moment (Ok was.answer)) behind))
      g grant (subst (λ (es : List Event). IsGrant (replay book.start es).tables g grant) stood is) comes
