-- Marks on places.
use Rattle.std.proofs.Common.{◌≡◌, ◌<◌, ◌≤◌, ◌+◌, ◌⊎◌, ◌∷◌, [], ℕ, zero, suc, Bool, false, List, Some, Contains, length, get_or, refl, sym, ◌∙◌, ap, subst, inl, inr, arith}
use Rattle.std.proofs.lemmas.Bool.{false≢true}
use Rattle.std.proofs.lemmas.Option.{get_or_from_slice_get, slice_get-get_or}
use Rattle.std.proofs.lemmas.List.Elements.{Contains-get_or}
use Rattle.access_report.specs.declared.step.Step.{Step}
use Rattle.access_report.specs.Pruning.{AreMarks, IsMarked, IsNamed, IsMarkedAt}

pub marked_within : (marks : List Bool) (k : ℕ) → IsMarked marks k → k < length marks
marked_within [] k is = absurd (false≢true is)
marked_within (b ∷ marks) zero is = omega arith
marked_within (b ∷ marks) (suc k) is = let within = marked_within marks k is in omega arith

-- later places are as they were, and what was marked is
pub record Marks (old new : List Bool) (place : ℕ) : Type 0 where
  pub same : (k : ℕ) → place ≤ k → get_or new k false ≡ get_or old k false
  pub keeps : (k : ℕ) → IsMarked old k → IsMarked new k

pub marks_nothing : (marks : List Bool) (place : ℕ) → Marks marks marks place
marks_nothing marks place = record { same = λ k above. refl; keeps = λ k is. is }

pub marks_then : (old mid new : List Bool) (place : ℕ) → Marks old mid place → Marks mid new place → Marks old new place
marks_then old mid new place first then = record {
  same = λ k above. then.same k above ∙ first.same k above;
  keeps = λ k is. then.keeps k (first.keeps k is);
}

-- the first places of a list are marked
pub record MarkedBelow (old new : List Bool) (place : ℕ) (from : List ℕ) (n : ℕ) : Type 0 where
  pub marks : Marks old new place
  pub marked : (j : ℕ) → j < n → get_or from j 0 < place → IsMarked new (get_or from j 0)
  pub only : (k : ℕ) → IsMarked new k → IsMarked old k ⊎ ((j : ℕ) × (j < n) × (get_or from j 0 ≡ k) × (k < place))

pub marked_none : (old : List Bool) (place : ℕ) (from : List ℕ) → MarkedBelow old old place from 0
marked_none old place from = record { marks = marks_nothing old place; marked = λ j less before. absurd (omega arith); only = λ k is. inl is }

pub marked_next : (old mid new : List Bool) (place : ℕ) (from : List ℕ) (n : ℕ) → Marks mid new place → (get_or from n 0 < place → IsMarked new (get_or from n 0))
    → ((k : ℕ) → IsMarked new k → IsMarked mid k ⊎ ((get_or from n 0 ≡ k) × (k < place))) → MarkedBelow old mid place from n → MarkedBelow old new place from (n + 1)
marked_next old mid new place from n marks here only so_far = record {
  only = λ k is.
      elim (only k is) [
        | inl before ↦ elim (so_far.only k before) [ inl first ↦ inl first | inr (j, less, same, below) ↦ inr (j, omega arith, same, below) ]
        | inr (same, below) ↦ inr (n, omega arith, same, below)
      ];
  marks = marks_then old mid new place so_far.marks marks;
  marked = λ j less before.
      (let sides : (j < n) ⊎ (n ≡ j) = grind arith in
      elim sides [
        | inl earlier ↦ marks.keeps (get_or from j 0) (so_far.marked j earlier before)
        | inr last ↦ subst (λ (i : ℕ). IsMarked new (get_or from i 0)) last (here (subst (λ (i : ℕ). get_or from i 0 < place) (sym last) before))
      ]);
}

read_any : (from : List ℕ) (j p : ℕ) → j < length from → get_or from j p ≡ p → get_or from j 0 ≡ p
read_any from j p less is = get_or_from_slice_get from j p 0 (slice_get-get_or from j p less ∙ ap (λ (n : ℕ). Some n) is)

pub marked_all : (old new : List Bool) (place : ℕ) (from : List ℕ) (n : ℕ) → length from ≤ n → MarkedBelow old new place from n → (p : ℕ) → Contains from p → p < place → IsMarked new p
marked_all old new place from n all done p (j, less, is) before =
    let same : get_or from j 0 ≡ p = read_any from j p less is in
    subst (λ (q : ℕ). IsMarked new q) same (done.marked j (omega arith) (subst (λ (q : ℕ). q < place) (sym same) before))

pub only_all : (old new : List Bool) (place : ℕ) (from : List ℕ) (n : ℕ) → n ≤ length from → MarkedBelow old new place from n → (k : ℕ) → IsMarked new k → IsMarked old k ⊎ (Contains from k × (k < place))
only_all old new place from n within done k is =
    elim (done.only k is) [
      | inl first ↦ inl first
      | inr (j, less, same, below) ↦ inr (subst (λ (q : ℕ). Contains from q) same (Contains-get_or from j 0 (omega arith)), below)
    ]

-- a place that is named is named where more is marked
pub named_more : (steps : List Step) (old new : List Bool) → ((k : ℕ) → IsMarked old k → IsMarked new k) → (k : ℕ) → IsNamed steps old k → IsNamed steps new k
named_more steps old new keeps k (i, step, later, marked, there, listed) = (i, step, later, keeps i marked, there, listed)

-- the last places are marked with what their steps rest on
pub record MarkedAbove (steps : List Step) (old new : List Bool) (back : ℕ) : Type 0 where
  pub keeps : (k : ℕ) → IsMarked old k → IsMarked new k
  pub above : (i : ℕ) → length old ≤ i + back → IsMarkedAt steps new i
  pub only : (k : ℕ) → IsMarked new k → IsMarked old k ⊎ IsNamed steps new k

pub above_none : (steps : List Step) (old : List Bool) → MarkedAbove steps old old 0
above_none steps old = record { keeps = λ k is. is; above = λ i past step p is there listed before. (let within = marked_within old i is in absurd (omega arith)); only = λ k is. inl is }

pub above_next : (steps : List Step) (old mid new : List Bool) (back place : ℕ) → place + back + 1 ≡ length old → Marks mid new place → IsMarkedAt steps new place
    → ((k : ℕ) → IsMarked new k → IsMarked mid k ⊎ IsNamed steps new k) → MarkedAbove steps old mid back → MarkedAbove steps old new (back + 1)
above_next steps old mid new back place at_place marks here only so_far = record {
  only = λ k is.
      elim (only k is) [
        | inl before ↦ elim (so_far.only k before) [ inl first ↦ inl first | inr named ↦ inr (named_more steps mid new marks.keeps k named) ]
        | inr named ↦ inr named
      ];
  keeps = λ k is. marks.keeps k (so_far.keeps k is);
  above = λ i past.
      (let sides : (place < i) ⊎ (place ≡ i) = grind arith in
      elim sides [
        | inl later ↦ λ step p is there listed before.
            (let was : IsMarked mid i = sym (marks.same i (omega arith)) ∙ is in
            let earlier : length old ≤ i + back = omega arith in
            marks.keeps p (so_far.above i earlier step p was there listed before))
        | inr same ↦ subst (λ (k : ℕ). IsMarkedAt steps new k) same here
      ]);
}

-- marks that one mark on the last step led to
pub marks_all : (steps : List Step) (last : ℕ) (old new : List Bool) → length new ≡ last + 1 → IsMarked old last → ((k : ℕ) → IsMarked old k → k ≡ last) → ((k : ℕ) → IsMarked old k → IsMarked new k)
    → ((i : ℕ) → IsMarkedAt steps new i) → ((k : ℕ) → IsMarked new k → IsMarked old k ⊎ IsNamed steps new k) → AreMarks steps last new
marks_all steps last old new long marked one keeps closed only = record {
  long = long;
  last_marked = keeps last marked;
  closed = closed;
  only = λ k is. elim (only k is) [ inl first ↦ inl (one k first) | inr named ↦ inr named ];
}
