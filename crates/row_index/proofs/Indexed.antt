-- What an index says stays so when rows are added, and when one is changed so that it has no further clue.
use Rattle.std.proofs.Common.{◌≡◌, ◌<◌, ◌≤◌, ◌++◌, ◌⊎◌, ℕ, zero, suc, List, [], ◌∷◌, Option, Some, None, inl, inr, length, slice_get, slice_set, slice_index_or, length-append, refl, ap, sym, subst, arith}
use Rattle.std.proofs.lemmas.List.{length-set}
use Rattle.std.proofs.lemmas.Option.{slice_get_read}
use Rattle.row_index.specs.declared.clues.Clues.{Clues}
use Rattle.row_index.specs.declared.index.Index.{Index}
use Rattle.row_index.specs.Index.{HasClue, IsIndexBut, IsIndexOf, IsNoted}
use Rattle.row_index.specs.Marks.{places_at, AreMarksOf, ForgetsPlace}
use Rattle.row_index.proofs.Marking.{marks_stay, marks_set, marks_lose}

pub get_left : {X : Type 0} (rows more : List X) (place : ℕ) (row : X) → place < length rows → slice_get (rows ++ more) place ≡ Some row → slice_get rows place ≡ Some row
get_left [] more place row below there = absurd (omega (arith, below))
get_left (x ∷ rows) more zero row below there = there
get_left (x ∷ rows) more (suc place) row below there = get_left rows more place row (omega (arith, below)) there

get_set : {X : Type 0} (rows : List X) (i : ℕ) (x : X) (place : ℕ) (row : X) → slice_get (slice_set rows i x) place ≡ Some row → ((place ≡ i) × (row ≡ x)) ⊎ (slice_get rows place ≡ Some row)
get_set [] i x place row there = inr there
get_set (first ∷ rows) zero x zero row there = inl (refl, cc)
get_set (first ∷ rows) zero x (suc place) row there = inr there
get_set (first ∷ rows) (suc i) x zero row there = inr there
get_set (first ∷ rows) (suc i) x (suc place) row there = elim (get_set rows i x place row there) [
  | inl here ↦ inl (ap (λ n. suc n) here.0, here.1)
  | inr other ↦ inr other
]

module _ {X : Type 0} (clues_of : X → Clues) (mark_of : X → Option ℕ) where
  pub none_covered : (rows : List X) (index : Index) → index.covered ≡ 0 → ((m : ℕ) → places_at index.marks m ≡ []) → index.marks.count ≡ 0 → IsIndexOf clues_of rows mark_of index
  none_covered rows index none places count = record {
    within = omega (arith, none);
    noted = λ place row c below there has. absurd (omega (arith, below, none));
    marked = subst (λ n. AreMarksOf mark_of rows n index.marks) (sym none) (record { places = places; count = count });
  }

  pub index_stays : (rows more : List X) (index : Index) → IsIndexOf clues_of rows mark_of index → IsIndexOf clues_of (rows ++ more) mark_of index
  index_stays rows more index is = record {
    within = omega (arith, is.within, length-append rows more);
    noted = λ place row c below there has. is.noted place row c below (get_left rows more place row (omega (arith, below, is.within)) there) has;
    marked = marks_stay mark_of rows more index.covered index.marks is.within is.marked;
  }

  -- whatever clues the row of the place has now
  pub index_but : (rows : List X) (index : Index) (i : ℕ) (row now : X) → i < length rows → row ≡ slice_index_or rows i row → mark_of now ≡ mark_of row → IsIndexOf clues_of rows mark_of index
      → IsIndexBut clues_of (slice_set rows i now) mark_of i index
  index_but rows index i row now inside read same is = record {
    within = subst (λ n. index.covered ≤ n) (sym (length-set rows i now)) is.within;
    noted = λ place other c below elsewhere at has. elim (get_set rows i now place other at) [
      | inl here ↦ absurd (elsewhere here.0)
      | inr as_before ↦ is.noted place other c below as_before has
    ];
    marked = marks_set mark_of rows index.covered index.marks i now row (slice_get_read rows (length rows) i row refl inside read) same is.marked;
  }

  module _ (f : X → X) (rows : List X) (index : Index) (i : ℕ) (row : X) (fewer : (c : ℕ) → HasClue (clues_of (f row)) c → HasClue (clues_of row) c)
      (inside : i < length rows) (read : row ≡ slice_index_or rows i row) (is : IsIndexOf clues_of rows mark_of index) where
    there : slice_get rows i ≡ Some row
    there = slice_get_read rows (length rows) i row refl inside read

    noted_on : (place : ℕ) (other : X) (c : ℕ) → place < index.covered → slice_get (slice_set rows i (f row)) place ≡ Some other → HasClue (clues_of other) c → IsNoted index.slots place c
    noted_on place other c below at has = elim (get_set rows i (f row) place other at) [
      | inl here ↦ is.noted place row c below (subst (λ n. slice_get rows n ≡ Some row) (sym here.0) there) (fewer c (subst (λ x. HasClue (clues_of x) c) here.1 has))
      | inr as_before ↦ is.noted place other c below as_before has
    ]

    within_on : index.covered ≤ length (slice_set rows i (f row))
    within_on = subst (λ n. index.covered ≤ n) (sym (length-set rows i (f row))) is.within

    pub index_keeps : mark_of (f row) ≡ mark_of row → IsIndexOf clues_of (slice_set rows i (f row)) mark_of index
    index_keeps same = record {
      within = within_on;
      noted = noted_on;
      marked = marks_set mark_of rows index.covered index.marks i (f row) row there same is.marked;
    }

    pub index_loses : (mark : ℕ) (after : Index) → mark_of row ≡ Some mark → mark_of (f row) ≡ None → after.slots ≡ index.slots → after.covered ≡ index.covered
        → ForgetsPlace index.marks after.marks mark i → IsIndexOf clues_of (slice_set rows i (f row)) mark_of after
    index_loses mark after had none slots covered forgets = record {
      within = subst (λ n. n ≤ length (slice_set rows i (f row))) (sym covered) within_on;
      noted = λ place other c below at has. subst (λ m. IsNoted m place c) (sym slots) (noted_on place other c (omega (arith, below, covered)) at has);
      marked = subst (λ n. AreMarksOf mark_of (slice_set rows i (f row)) n after.marks) (sym covered)
          (marks_lose mark_of mark i rows index.covered index.marks after.marks (f row) row there had none is.marked forgets);
    }
