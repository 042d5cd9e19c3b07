-- Jobs that were done by passes.
use Rattle.std.proofs.Common.{◌≡◌, ◌≤◌, ℕ, ◌+◌, ◌++◌, suc, All, List, [], ◌∷◌, length, map, false, is_err, Result, Ok, Err, IfOk, refl, sym, ◌∙◌, ap, subst, arith}
use Rattle.std.specs.List.{sum_by}
use Rattle.std.proofs.lemmas.List.Sums.{sum_by-cons}
use Rattle.std.proofs.lemmas.List.Elements.{All-cons, All-head, All-nil, All-tail}
use mathlib.Core.List.{IsPrefix}
use Rattle.host_base.specs.declared.verdict.Verdict.{Verdict}
use Rattle.share_graph.specs.declared.event.Event.{Event}
use Rattle.share_graph.specs.declared.state.State.{State}
use Rattle.site_caps.specs.Law.{Law}
use Rattle.epoch_gate.specs.Passes.{Passing, accepted}
use Rattle.hub_core.specs.Book.{Book}
use Rattle.hub_jobs.specs.Inner.{DoneBy, Each}
use Rattle.hub_jobs.specs.Jobs.{AreDone, DoneAtOnce, Shift}
use Rattle.shared_hub.specs.Passing.{book_by}
use Rattle.tick_desk.specs.Clocked.{ticks_in, without}

each_first : {A : Type 0} (related : A → A → Type 0) (x y : A) (xs ys : List A) → Each related (x ∷ xs) (y ∷ ys) → related x y
each_first related x y xs ys (long, each) = each 0 x (omega arith)

each_others : {A : Type 0} (related : A → A → Type 0) (x y : A) (xs ys : List A) → Each related (x ∷ xs) (y ∷ ys) → Each related xs ys
each_others related x y xs ys (long, each) = (omega (arith, long), λ i d near. each (suc i) d (omega (arith, near)))

module _ {W J : Type 0} (desk : W → Passing Event Verdict) (ticks : W → ℕ) (job : W → J) (does : Book → Book → J → J → Type 0) (law : Law) (start : State) where
  abbrev Works : W → W → Type 0
  Works old new =
      does (without (ticks old) (book_by law start (desk old))) (without (ticks new) (book_by law start (desk new))) (job old) (job new) × (ticks new ≤ ticks_in (desk new).seen)

  abbrev IsUnusedBy : W → Type 0
  IsUnusedBy w = (desk w).orders ≡ 0

  abbrev IsUnticked : W → Type 0
  IsUnticked w = ticks w ≡ 0

  abbrev shifts_of : List W → List W → List Shift
  shifts_of (x ∷ xs) (y ∷ ys) = record { from = desk x; to = desk y; ticks = ticks y } ∷ shifts_of xs ys
  shifts_of _ _ = []

  passes_are : (xs ys : List W) → length ys ≡ length xs → map (λ (shift : Shift). shift.to) (shifts_of xs ys) ≡ map desk ys
  passes_are [] [] long = refl
  passes_are [] (y ∷ ys) long = absurd (omega (arith, long))
  passes_are (x ∷ xs) [] long = absurd (omega (arith, long))
  passes_are (x ∷ xs) (y ∷ ys) long = ap (λ more. desk y ∷ more) (passes_are xs ys (omega (arith, long)))

  are_done : (xs ys : List W) → Each Works xs ys → All IsUnusedBy xs → All IsUnticked xs → AreDone does law start (shifts_of xs ys) (map job xs) (map job ys)
  are_done [] [] each unused unticked = tt
  are_done [] (y ∷ ys) (long, each) unused unticked = absurd (omega (arith, long))
  are_done (x ∷ xs) [] (long, each) unused unticked = absurd (omega (arith, long))
  are_done (x ∷ xs) (y ∷ ys) each unused unticked = (
    record {
      unused = All-head IsUnusedBy x xs unused;
      ticked = (each_first Works x y xs ys each).1;
      did = subst (λ (n : ℕ). does (without n (book_by law start (desk x))) (without (ticks y) (book_by law start (desk y))) (job x) (job y))
          (All-head IsUnticked x xs unticked) (each_first Works x y xs ys each).0;
    },
    are_done xs ys (each_others Works x y xs ys each) (All-tail IsUnusedBy x xs unused) (All-tail IsUnticked x xs unticked),
  )

  -- workers' jobs were done by their passes
  pub done_by : (xs ys : List W) (passes : List (Passing Event Verdict)) (old new : List J) → Each Works xs ys → All IsUnusedBy xs → All IsUnticked xs → map job xs ≡ old → passes ≡ map desk ys → new ≡ map job ys
      → DoneBy does law start passes old new
  done_by xs ys passes old new each unused unticked before passes_is after = (
    shifts_of xs ys,
    passes_are xs ys each.0 ∙ sym passes_is,
    subst (λ (list : List J). AreDone does law start (shifts_of xs ys) old list) (sym after)
        (subst (λ (list : List J). AreDone does law start (shifts_of xs ys) list (map job ys)) before (are_done xs ys each unused unticked)),
  )

sums : (shifts : List Shift) → accepted (map (λ (shift : Shift). shift.to) shifts) ≡ sum_by (λ (shift : Shift). shift.to.orders) shifts
sums [] = refl
sums (shift ∷ shifts) =
    let passes : List (Passing Event Verdict) = map (λ (s : Shift). s.to) shifts in
    let one = sum_by-cons (λ (pass : Passing Event Verdict). pass.orders) shift.to passes in
    let other = sum_by-cons (λ (s : Shift). s.to.orders) shift shifts in
    let more = sums shifts in
    omega (arith, one, other, more)

-- what is known of each item of a list that was made of another is known by that one's items
pub from_map : {A B : Type 0} (P : B → Type 0) (f : A → B) (xs : List A) → All P (map f xs) → All (λ x. P (f x)) xs
from_map P f [] all = All-nil (λ x. P (f x))
from_map P f (x ∷ xs) all = All-cons (λ y. P (f y)) x xs (All-head P (f x) (map f xs) all) (from_map P f xs (All-tail P (f x) (map f xs) all))

-- and so they were done at once, on the history that the passes have seen beginnings of
pub at_once : {J : Type 0} (does : Book → Book → J → J → Type 0) (law : Law) (start : State) (history : List Event) (passes : List (Passing Event Verdict)) (old new : List J)
    → DoneBy does law start passes old new → accepted passes ≡ length history → All (λ (pass : Passing Event Verdict). IsPrefix pass.seen history) passes
    → DoneAtOnce does law start history old new
at_once does law start history passes old new (shifts, passes_is, done) counted all = record {
  shifts = shifts;
  done = done;
  begins = from_map (λ (pass : Passing Event Verdict). IsPrefix pass.seen history) (λ (shift : Shift). shift.to) shifts
      (subst (λ (list : List (Passing Event Verdict)). All (λ (pass : Passing Event Verdict). IsPrefix pass.seen history) list) (sym passes_is) all);
  entries = sym counted ∙ ap accepted (sym passes_is) ∙ sums shifts;
}

-- what is known of each item of a list is known of its last one and of those before it
module _ {A : Type 0} (P : A → Type 0) where
  pub last_is : (xs : List A) (x : A) → All P (xs ++ x ∷ []) → P x
  last_is [] x all = All-head P x [] all
  last_is (y ∷ ys) x all = last_is ys x (All-tail P y (ys ++ x ∷ []) all)

  pub front_is : (xs : List A) (x : A) → All P (xs ++ x ∷ []) → All P xs
  front_is [] x all = All-nil P
  front_is (y ∷ ys) x all = All-cons P y ys (All-head P y (ys ++ x ∷ []) all) (front_is ys x (All-tail P y (ys ++ x ∷ []) all))

-- passes that gave no order have none accepted
pub none_accepted : (passes : List (Passing Event Verdict)) → All (λ (pass : Passing Event Verdict). pass.orders ≡ 0) passes → accepted passes ≡ 0
none_accepted [] all = refl
none_accepted (pass ∷ passes) all =
    let first = All-head (λ (p : Passing Event Verdict). p.orders ≡ 0) pass passes all in
    let rest = none_accepted passes (All-tail (λ (p : Passing Event Verdict). p.orders ≡ 0) pass passes all) in
    let sum = sum_by-cons (λ (p : Passing Event Verdict). p.orders) pass passes in
    omega (arith, first, rest, sum)

-- what is known of a result where it is no error
pub ok_is : {X Y P : Type 0} (r : Result X Y) → is_err r ≡ false → IfOk r (λ _. P) → P
ok_is (Ok x) is known = known
ok_is (Err e) is known = absurd (cc is)
