-- A tick that ends some grant fits, and one grant more has ended by it.
use Rattle.std.proofs.Common.{◌≡◌, ◌↔◌, ◌⊎◌, ◌++◌, ◌+◌, ◌<◌, ◌≤◌, ℕ, zero, suc, Bool, true, false, cond, List, [], ◌∷◌, Option, Some, None, Contains, IsTrue, count_by, length, slice_get, refl, sym, ap, subst, arith, inl, inr}
use Rattle.std.specs.Prelude.{◌==◌, not}
use Rattle.std.proofs.lemmas.Bool.{false≢true}
use Rattle.std.proofs.lemmas.Bool.Decides.{nat_tests}
use Rattle.std.proofs.lemmas.List.Sums.{count_by-le-length, sum_by-cons}
use Rattle.desk_base.specs.Terms.{after, Event, EventFits, Grant, GrantId, IsWellFormed, replay, State, Tables}
use Rattle.desk_base.specs.Limits.{most_entries}
use Rattle.share_graph.specs.declared.event.Event.TheVariants as event
use Rattle.share_graph.specs.declared.facts.Node.{Node}
use Rattle.share_graph.specs.Nodes.{node_of}
use Rattle.share_graph.specs.Rows.{row}
use Rattle.region_access.specs.Seeds.{ComesBetween, IsSeedOf}
use Rattle.region_work.proofs.Sums.{contains_cons, contains_none}
use Rattle.state_step.proofs.AfterAll.{replay_appended}
use Rattle.state_step.proofs.TickLaws.{ticked_fits}
use Rattle.hub_core.specs.Ticking.{EndsSome, NeverBack, has_come, ended}

goes_on : (now m : ℕ) (expires : Option ℕ) → ComesBetween now m expires → now < m
goes_on now m None comes = absurd comes
goes_on now m (Some end) (low, high) = omega (arith, low, high)

-- a tick that ends some grant fits
pub tick_fits : (s : State) → IsWellFormed s → (m : ℕ) → EndsSome s.tables m → EventFits s (event.Ticked m)
tick_fits s formed m (g, grant, ends) = ticked_fits s formed m (goes_on s.tables.moment m grant.expires ends.ends)

-- ---- what has ended

still_come : (now m : ℕ) (expires : Option ℕ) → now < m → has_come now expires ≡ true → has_come m expires ≡ true
still_come now m None later come = cc come
still_come now m (Some end) later come = grind (arith, nat_tests)

not_yet : (now m : ℕ) (expires : Option ℕ) → ComesBetween now m expires → has_come now expires ≡ false
not_yet now m None comes = absurd comes
not_yet now m (Some end) (low, high) = grind (arith, nat_tests)

come_then : (now m : ℕ) (expires : Option ℕ) → ComesBetween now m expires → has_come m expires ≡ true
come_then now m None comes = absurd comes
come_then now m (Some end) (low, high) = grind (arith, nat_tests)

counts : (a b : Bool) (x y : ℕ) → (a ≡ true → b ≡ true) → x ≤ y → cond a 1 0 + x ≤ cond b 1 0 + y
counts true true x y keeps le = omega (arith, le)
counts true false x y keeps le = cc (keeps refl)
counts false true x y keeps le = omega (arith, le)
counts false false x y keeps le = omega (arith, le)

module _ {X : Type 0} (f g : X → Bool) (keeps : (x : X) → f x ≡ true → g x ≡ true) where
  counts_on : (xs : List X) → count_by f xs ≤ count_by g xs
  counts_on [] = omega arith
  counts_on (x ∷ xs) =
      let a = sum_by-cons (λ y. cond (f y) 1 0) x xs in
      let b = sum_by-cons (λ y. cond (g y) 1 0) x xs in
      let both = counts (f x) (g x) (count_by f xs) (count_by g xs) (keeps x) (counts_on xs) in
      omega (arith, a, b, both)

  counts_more : (xs : List X) (k : ℕ) (x : X) → slice_get xs k ≡ Some x → f x ≡ false → g x ≡ true → count_by f xs + 1 ≤ count_by g xs
  counts_more [] k x is out now = cc is
  counts_more (y ∷ xs) zero x is out now =
      let same : y ≡ x = cc is in
      let was : ◌≡◌ {A = ℕ} (cond (f y) 1 0) 0 = rw (same, out) refl in
      let now_so : ◌≡◌ {A = ℕ} (cond (g y) 1 0) 1 = rw (same, now) refl in
      let a = sum_by-cons (λ z. cond (f z) 1 0) y xs in
      let b = sum_by-cons (λ z. cond (g z) 1 0) y xs in
      let rest : count_by f xs ≤ count_by g xs = counts_on xs in
      omega (arith, a, b, was, now_so, rest)
  counts_more (y ∷ xs) (suc k) x is out now =
      let rest : count_by f xs + 1 ≤ count_by g xs = counts_more xs k x is out now in
      let a = sum_by-cons (λ z. cond (f z) 1 0) y xs in
      let b = sum_by-cons (λ z. cond (g z) 1 0) y xs in
      let both = counts (f y) (g y) (count_by f xs + 1) (count_by g xs) (keeps y) rest in
      omega (arith, a, b, both)

by_place : (t : Tables) (m n : ℕ) (grant : Grant) → row t.grants n ≡ Some grant → ComesBetween t.moment m grant.expires → ended t + 1 ≤ ended (record t { moment = m })
by_place t m zero grant is comes = cc is
by_place t m (suc k) grant is comes =
    counts_more (λ (x : Grant). has_come t.moment x.expires) (λ (x : Grant). has_come m x.expires)
    (λ x. still_come t.moment m x.expires (goes_on t.moment m grant.expires comes)) t.grants k grant is
    (not_yet t.moment m grant.expires comes) (come_then t.moment m grant.expires comes)

-- one more has ended
pub ends_more : (t : Tables) (m : ℕ) → EndsSome t m → ended t + 1 ≤ ended (record t { moment = m })
ends_more t m (g, grant, ends) = by_place t m g.0 grant ends.is_row ends.ends

-- and so a tick has its place among the entries
pub room_for_ticks : (s : State) (m n : ℕ) → n ≤ most_entries + ended s.tables → EndsSome s.tables m → n + 1 ≤ most_entries + ended (after s (event.Ticked m)).tables
room_for_ticks s m n few ends = let more = ends_more s.tables m ends in omega (arith, few, more)

-- no more end than there are
pub ended_few : (s : State) → IsWellFormed s → ended s.tables ≤ 65536
ended_few s formed =
    let within = count_by-le-length (λ (x : Grant). has_come s.tables.moment x.expires) s.tables.grants in
    omega (arith, within, formed.limits.grants)

-- ---- the seeds of a tick

-- some grant ends exactly where there are seeds
pub ends_where_seeds : (t : Tables) (m : ℕ) (seeds : List Node) → ((at : Node) → Contains seeds at ↔ IsSeedOf t (event.Ticked m) at)
    → (empty : Bool) → empty ≡ (length seeds == 0) → IsTrue (not empty) ↔ EndsSome t m
ends_where_seeds t m [] exact empty is = (
  λ some. absurd (false≢true (rw is at some)),
  λ (g, grant, ends). absurd (contains_none (node_of g grant) ((exact (node_of g grant)).1 (g, grant, ends, refl))),
)
ends_where_seeds t m (at ∷ seeds) exact empty is = (
  λ some. (let (g, grant, ends, same) = (exact at).0 ((contains_cons at seeds at).1 (inl refl)) in (g, grant, ends)),
  λ ends. rw is (grind (arith, nat_tests)),
)

-- ---- the clock never goes back

-- nor does an event that fits
moment_on : (s : State) (e : Event) → EventFits s e → s.tables.moment ≤ (after s e).tables.moment
moment_on s (event.Ticked m) fits = omega (arith, fits.changed)
moment_on s e fits = omega arith

pub never_back_none : (start : State) → NeverBack start []
never_back_none start [] rest is = omega arith
never_back_none start (e ∷ before) rest is = cc is

-- entries of which one is the last are some and the rest, or all
last_split : (old before rest : List Event) (e : Event) → old ++ e ∷ [] ≡ before ++ rest
    → (before ≡ old ++ e ∷ []) ⊎ ((less : List Event) × (old ≡ before ++ less))
last_split [] [] rest e is = inr ([], refl)
last_split [] (f ∷ []) rest e is = inl (let same : e ≡ f = cc is in rw same refl)
last_split [] (f ∷ g ∷ before) rest e is = cc is
last_split (f ∷ old) [] rest e is = inr (f ∷ old, refl)
last_split (f ∷ old) (g ∷ before) rest e is =
    let same : f ≡ g = cc is in
    let more : old ++ e ∷ [] ≡ before ++ rest = cc is in
    elim (last_split old before rest e more) [
      | inl all ↦ inl (rw (same, all) refl)
      | inr (less, some) ↦ inr (less, rw (same, some) refl)
    ]

pub never_back_added : (start : State) (old : List Event) (e : Event) → NeverBack start old → EventFits (replay start old) e → NeverBack start (old ++ e ∷ [])
never_back_added start old e onward fits before rest is =
    let on : (replay start old).tables.moment ≤ (replay start (old ++ e ∷ [])).tables.moment = rw (replay_appended start old e) (moment_on (replay start old) e fits) in
    elim (last_split old before rest e is) [
      | inl all ↦ rw all (omega arith)
      | inr (less, some) ↦ (let earlier = onward before less some in omega (arith, earlier, on))
    ]
