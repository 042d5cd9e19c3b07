-- The places of marks, as rows are covered, added and changed.
use Rattle.std.proofs.Common.{◌≡◌, ◌<◌, ◌≤◌, ◌+◌, ◌++◌, ℕ, zero, suc, Bool, true, false, nat_eq, not, List, [], ◌∷◌, Option, Some, None, inl, inr, is_some, length, append-nil, if◌then◌else◌, slice_get, slice_set, drop, count_by, refl, sym, ap, ◌∙◌, subst, arith}
use Rattle.std.proofs.lemmas.Bool.{eqb-true, eq-eqb, cases_lt}
use Rattle.std.proofs.lemmas.List.Sums.{sum_by-append}
use Rattle.std.specs.List.{filter}
use Rattle.row_index.specs.declared.marks.Marks.{Marks}
use Rattle.row_index.specs.Marks.{places_at, NotesPlace, NotesMark, ForgetsPlace, has_mark, cons_if, add_if, marked, counted, AreMarksOf, NoneHasMark, IsFirstMarked}

cons_append : (b : Bool) (n : ℕ) (xs ys : List ℕ) → cons_if b n (xs ++ ys) ≡ cons_if b n xs ++ ys
cons_append true n xs ys = refl
cons_append false n xs ys = refl

add_twice : (a b : Bool) (n : ℕ) → add_if a (add_if b n) ≡ add_if b (add_if a n)
add_twice true true n = refl
add_twice true false n = refl
add_twice false true n = refl
add_twice false false n = refl

module _ {X : Type 0} (mark_of : X → Option ℕ) where
  marked_next : (m n k : ℕ) (rows : List X) (row : X) (place : ℕ) → slice_get rows k ≡ Some row → place ≡ n + k
      → marked mark_of m n (suc k) rows ≡ marked mark_of m n k rows ++ cons_if (has_mark m (mark_of row)) place []
  marked_next m n k [] row place there is = cc
  marked_next m n zero (x ∷ rows) row place there is =
      let same : x ≡ row = cc in
      let at : n ≡ place = omega (arith, is) in
      λ i. cons_if (has_mark m (mark_of (same i))) (at i) []
  marked_next m n (suc k) (x ∷ rows) row place there is =
      ap (cons_if (has_mark m (mark_of x)) n) (marked_next m (suc n) k rows row place there (omega (arith, is)))
      ∙ cons_append (has_mark m (mark_of x)) n (marked mark_of m (suc n) k rows) (cons_if (has_mark m (mark_of row)) place [])

  counted_next : (k : ℕ) (rows : List X) (row : X) → slice_get rows k ≡ Some row → counted mark_of (suc k) rows ≡ add_if (is_some (mark_of row)) (counted mark_of k rows)
  counted_next k [] row there = cc
  counted_next zero (x ∷ rows) row there =
      let same : x ≡ row = cc in
      λ i. add_if (is_some (mark_of (same i))) 0
  counted_next (suc k) (x ∷ rows) row there =
      ap (add_if (is_some (mark_of x))) (counted_next k rows row there) ∙ add_twice (is_some (mark_of x)) (is_some (mark_of row)) (counted mark_of k rows)

  pub counted_within : (k : ℕ) (rows : List X) → counted mark_of k rows ≤ k
  counted_within zero rows = omega arith
  counted_within (suc k) [] = omega arith
  counted_within (suc k) (x ∷ rows) = within (is_some (mark_of x)) (counted mark_of k rows) (counted_within k rows)
    where
      within : (b : Bool) (n : ℕ) → n ≤ k → add_if b n ≤ suc k
      within true n le = omega (arith, le)
      within false n le = omega (arith, le)

  module _ (rows : List X) (k : ℕ) (before after : Marks) (row : X) (are : AreMarksOf mark_of rows k before) (there : slice_get rows k ≡ Some row) where
    next : (m : ℕ) (mark : Option ℕ) → mark_of row ≡ mark → marked mark_of m 0 (suc k) rows ≡ marked mark_of m 0 k rows ++ cons_if (has_mark m mark) k []
    next m mark is = marked_next m 0 k rows row k there (omega arith) ∙ ap (λ o. marked mark_of m 0 k rows ++ cons_if (has_mark m o) k []) is

    more : (mark : Option ℕ) → mark_of row ≡ mark → counted mark_of (suc k) rows ≡ add_if (is_some mark) (counted mark_of k rows)
    more mark is = counted_next k rows row there ∙ ap (λ o. add_if (is_some o) (counted mark_of k rows)) is

    with_place : (mark m : ℕ) → mark_of row ≡ Some mark → NotesPlace before after mark k → (b : Bool) → nat_eq mark m ≡ b → places_at after m ≡ marked mark_of m 0 (suc k) rows
    with_place mark m is notes true e =
        let same : mark ≡ m = eqb-true mark m e in
        subst (λ n. places_at after n ≡ places_at before n ++ k ∷ []) same notes.its ∙ ap (λ xs. xs ++ k ∷ []) (are.places m)
        ∙ sym (next m (Some mark) is ∙ ap (λ b. marked mark_of m 0 k rows ++ cons_if b k []) e)
    with_place mark m is notes false e =
        notes.others m e ∙ are.places m ∙ sym (next m (Some mark) is ∙ ap (λ b. marked mark_of m 0 k rows ++ cons_if b k []) e ∙ append-nil (marked mark_of m 0 k rows))

    pub noted_by : (mark : Option ℕ) → mark_of row ≡ mark → NotesMark before after mark k → AreMarksOf mark_of rows (suc k) after
    noted_by None is keeps = record {
      places = λ m. keeps.places m ∙ are.places m ∙ sym (next m None is ∙ append-nil (marked mark_of m 0 k rows));
      count = keeps.count ∙ are.count ∙ sym (more None is);
    }
    noted_by (Some mark) is (notes, count) = record {
      places = λ m. with_place mark m is notes (nat_eq mark m) refl;
      count = count ∙ ap (λ n. n + 1) are.count ∙ (let e = more (Some mark) is in omega (arith, e));
    }

  marked_stays : (m n k : ℕ) (rows others : List X) → k ≤ length rows → marked mark_of m n k (rows ++ others) ≡ marked mark_of m n k rows
  marked_stays m n zero rows others within = refl
  marked_stays m n (suc k) [] others within = absurd (omega (arith, within))
  marked_stays m n (suc k) (x ∷ rows) others within = ap (cons_if (has_mark m (mark_of x)) n) (marked_stays m (suc n) k rows others (omega (arith, within)))

  counted_stays : (k : ℕ) (rows others : List X) → k ≤ length rows → counted mark_of k (rows ++ others) ≡ counted mark_of k rows
  counted_stays zero rows others within = refl
  counted_stays (suc k) [] others within = absurd (omega (arith, within))
  counted_stays (suc k) (x ∷ rows) others within = ap (add_if (is_some (mark_of x))) (counted_stays k rows others (omega (arith, within)))

  pub marks_stay : (rows others : List X) (k : ℕ) (marks : Marks) → k ≤ length rows → AreMarksOf mark_of rows k marks → AreMarksOf mark_of (rows ++ others) k marks
  marks_stay rows others k marks within are = record {
    places = λ m. are.places m ∙ sym (marked_stays m 0 k rows others within);
    count = are.count ∙ sym (counted_stays k rows others within);
  }

  -- one row is changed
  marked_set : (m n k : ℕ) (rows : List X) (i : ℕ) (x row : X) → slice_get rows i ≡ Some row → has_mark m (mark_of x) ≡ has_mark m (mark_of row)
      → marked mark_of m n k (slice_set rows i x) ≡ marked mark_of m n k rows
  marked_set m n zero rows i x row there same = refl
  marked_set m n (suc k) [] i x row there same = refl
  marked_set m n (suc k) (y ∷ rows) zero x row there same =
      let is : y ≡ row = cc in
      ap (λ b. cons_if b n (marked mark_of m (suc n) k rows)) (same ∙ sym (ap (λ z. has_mark m (mark_of z)) is))
  marked_set m n (suc k) (y ∷ rows) (suc i) x row there same = ap (cons_if (has_mark m (mark_of y)) n) (marked_set m (suc n) k rows i x row there same)

  counted_set : (k : ℕ) (rows : List X) (i : ℕ) (x row : X) → slice_get rows i ≡ Some row → is_some (mark_of x) ≡ is_some (mark_of row) → counted mark_of k (slice_set rows i x) ≡ counted mark_of k rows
  counted_set zero rows i x row there same = refl
  counted_set (suc k) [] i x row there same = refl
  counted_set (suc k) (y ∷ rows) zero x row there same =
      let is : y ≡ row = cc in
      ap (λ b. add_if b (counted mark_of k rows)) (same ∙ sym (ap (λ z. is_some (mark_of z)) is))
  counted_set (suc k) (y ∷ rows) (suc i) x row there same = ap (add_if (is_some (mark_of y))) (counted_set k rows i x row there same)

  pub marks_set : (rows : List X) (k : ℕ) (marks : Marks) (i : ℕ) (x row : X) → slice_get rows i ≡ Some row → mark_of x ≡ mark_of row → AreMarksOf mark_of rows k marks → AreMarksOf mark_of (slice_set rows i x) k marks
  marks_set rows k marks i x row there same are = record {
    places = λ m. are.places m ∙ sym (marked_set m 0 k rows i x row there (ap (has_mark m) same));
    count = are.count ∙ sym (counted_set k rows i x row there (ap is_some same));
  }

  -- one row loses its mark
  module _ (mark place : ℕ) where
    abbrev others : List ℕ → List ℕ
    others places = filter (λ other. not (nat_eq other place)) places

    apart : (n : ℕ) → place < n → (b : Bool) → nat_eq n place ≡ b → b ≡ false
    apart n above true e = absurd (let same = eqb-true n place e in omega (arith, above, same))
    apart n above false e = refl

    cons_kept : (b : Bool) (n : ℕ) (places : List ℕ) → nat_eq n place ≡ false → others (cons_if b n places) ≡ cons_if b n (others places)
    cons_kept true n places e = rw e refl
    cons_kept false n places e = refl

    all_behind : (m n k : ℕ) (rows : List X) → place < n → others (marked mark_of m n k rows) ≡ marked mark_of m n k rows
    all_behind m n zero rows above = refl
    all_behind m n (suc k) [] above = refl
    all_behind m n (suc k) (y ∷ rows) above =
        cons_kept (has_mark m (mark_of y)) n (marked mark_of m (suc n) k rows) (apart n above (nat_eq n place) refl)
        ∙ ap (cons_if (has_mark m (mark_of y)) n) (all_behind m (suc n) k rows (omega (arith, above)))

    before_it : (n : ℕ) → n < place → (b : Bool) → nat_eq n place ≡ b → b ≡ false
    before_it n below true e = absurd (let same = eqb-true n place e in omega (arith, below, same))
    before_it n below false e = refl

    marked_loses : (n k : ℕ) (rows : List X) (i : ℕ) (x row : X) → place ≡ n + i → slice_get rows i ≡ Some row → mark_of row ≡ Some mark → mark_of x ≡ None
        → marked mark_of mark n k (slice_set rows i x) ≡ others (marked mark_of mark n k rows)
    marked_loses n zero rows i x row at there had none = refl
    marked_loses n (suc k) [] i x row at there had none = refl
    marked_loses n (suc k) (y ∷ rows) zero x row at there had none =
        let is : y ≡ row = cc in
        let its : has_mark mark (mark_of y) ≡ true = ap (λ z. has_mark mark (mark_of z)) is ∙ ap (has_mark mark) had ∙ eq-eqb mark mark refl in
        let here : nat_eq n place ≡ true = (let same : n ≡ place = omega (arith, at) in ap (λ p. nat_eq n p) (sym same) ∙ eq-eqb n n refl) in
        ap (λ o. cons_if (has_mark mark o) n (marked mark_of mark (suc n) k rows)) none
        ∙ sym (ap (λ b. others (cons_if b n (marked mark_of mark (suc n) k rows))) its ∙ rw here refl ∙ all_behind mark (suc n) k rows (omega (arith, at)))
    marked_loses n (suc k) (y ∷ rows) (suc i) x row at there had none =
        ap (cons_if (has_mark mark (mark_of y)) n) (marked_loses (suc n) k rows i x row (omega (arith, at)) there had none)
        ∙ sym (cons_kept (has_mark mark (mark_of y)) n (marked mark_of mark (suc n) k rows) (before_it n (omega (arith, at)) (nat_eq n place) refl))

    balance : (n k : ℕ) (rows : List X) (i : ℕ) (x row : X) → slice_get rows i ≡ Some row → mark_of row ≡ Some mark → mark_of x ≡ None
        → counted mark_of k rows + length (marked mark_of mark n k (slice_set rows i x)) ≡ counted mark_of k (slice_set rows i x) + length (marked mark_of mark n k rows)
    balance n zero rows i x row there had none = refl
    balance n (suc k) [] i x row there had none = refl
    balance n (suc k) (y ∷ rows) zero x row there had none =
        let is : y ≡ row = cc in
        let its : mark_of y ≡ Some mark = ap mark_of is ∙ had in
        lost (counted mark_of k rows) (marked mark_of mark (suc n) k rows) (mark_of y) (mark_of x) its none
      where
        lost : (c : ℕ) (places : List ℕ) (o p : Option ℕ) → o ≡ Some mark → p ≡ None
            → add_if (is_some o) c + length (cons_if (has_mark mark p) n places) ≡ add_if (is_some p) c + length (cons_if (has_mark mark o) n places)
        lost c places o p is without = rw (is, without, eq-eqb mark mark refl) (omega arith)
    balance n (suc k) (y ∷ rows) (suc i) x row there had none =
        both (is_some (mark_of y)) (has_mark mark (mark_of y)) _ _ _ _ (balance (suc n) k rows i x row there had none)
      where
        both : (a b : Bool) (c d : ℕ) (xs ys : List ℕ) → c + length xs ≡ d + length ys → add_if a c + length (cons_if b n xs) ≡ add_if a d + length (cons_if b n ys)
        both true true c d xs ys e = omega (arith, e)
        both true false c d xs ys e = omega (arith, e)
        both false true c d xs ys e = omega (arith, e)
        both false false c d xs ys e = omega (arith, e)

    others_le : (places : List ℕ) → length (others places) ≤ length places
    others_le [] = omega arith
    others_le (p ∷ places) = fewer (not (nat_eq p place)) (others_le places)
      where
        fewer : (b : Bool) → length (others places) ≤ length places → length (if b then p ∷ others places else others places) ≤ suc (length places)
        fewer true le = omega (arith, le)
        fewer false le = omega (arith, le)

    pub marks_lose : (rows : List X) (k : ℕ) (before after : Marks) (x row : X) → slice_get rows place ≡ Some row → mark_of row ≡ Some mark → mark_of x ≡ None
        → AreMarksOf mark_of rows k before → ForgetsPlace before after mark place → AreMarksOf mark_of (slice_set rows place x) k after
    marks_lose rows k before after x row there had none are forgets = record {
      places = λ m. at m (nat_eq mark m) refl;
      count = (let b = balance 0 k rows place x row there had none in
          let size_now = ap (λ xs. length xs) its in
          let size_before = ap (λ xs. length xs) (are.places mark) in
          let fewer = ap (λ xs. length xs) forgets.its in
          let le = others_le (places_at before mark) in
          let count = forgets.count in
          let counted_before = are.count in
          omega (arith, b, size_now, size_before, fewer, le, count, counted_before));
    }
      where
        its : places_at after mark ≡ marked mark_of mark 0 k (slice_set rows place x)
        its = forgets.its ∙ ap others (are.places mark) ∙ sym (marked_loses 0 k rows place x row (omega arith) there had none)

        at : (m : ℕ) (b : Bool) → nat_eq mark m ≡ b → places_at after m ≡ marked mark_of m 0 k (slice_set rows place x)
        at m true e = let same : mark ≡ m = eqb-true mark m e in subst (λ n. places_at after n ≡ marked mark_of n 0 k (slice_set rows place x)) same its
        at m false e = forgets.others m e ∙ are.places m
            ∙ sym (marked_set m 0 k rows place x row there (ap (has_mark m) none ∙ sym (ap (has_mark m) had ∙ e)))

  -- what is covered and what isn't, counted together
  count_cons : (p : X → Bool) (x : X) (rows : List X) → count_by p (x ∷ rows) ≡ (if p x then 1 else 0) + count_by p rows
  count_cons p x rows = (let e = sum_by-append (λ y. if p y then 1 else 0) (x ∷ []) rows in omega (arith, e))

  more_by : (b : Bool) (c d e : ℕ) → c + d ≡ e → add_if b c + d ≡ (if b then 1 else 0) + e
  more_by true c d e is = omega (arith, is)
  more_by false c d e is = omega (arith, is)

  pub counted_all : (k : ℕ) (rows : List X) → counted mark_of k rows + count_by (λ row. is_some (mark_of row)) (drop k rows) ≡ count_by (λ row. is_some (mark_of row)) rows
  counted_all zero rows = omega arith
  counted_all (suc k) [] = refl
  counted_all (suc k) (x ∷ rows) = more_by (is_some (mark_of x)) (counted mark_of k rows) _ _ (counted_all k rows) ∙ sym (count_cons (λ row. is_some (mark_of row)) x rows)

  longer_by : (b : Bool) (n : ℕ) (places : List ℕ) (d e : ℕ) → length places + d ≡ e → length (cons_if b n places) + d ≡ (if b then 1 else 0) + e
  longer_by true n places d e is = omega (arith, is)
  longer_by false n places d e is = omega (arith, is)

  pub marked_all : (m n k : ℕ) (rows : List X) → length (marked mark_of m n k rows) + count_by (λ row. has_mark m (mark_of row)) (drop k rows) ≡ count_by (λ row. has_mark m (mark_of row)) rows
  marked_all m n zero rows = omega arith
  marked_all m n (suc k) [] = refl
  marked_all m n (suc k) (x ∷ rows) =
      longer_by (has_mark m (mark_of x)) n (marked mark_of m (suc n) k rows) _ _ (marked_all m (suc n) k rows) ∙ sym (count_cons (λ row. has_mark m (mark_of row)) x rows)

  -- the first place of a mark
  abbrev First : ℕ → ℕ → List X → ℕ → Type 0
  First m n rows place = (i : ℕ) × (place ≡ n + i) × IsFirstMarked mark_of m rows i

  before_all : (m : ℕ) (x : X) (rows : List X) (i : ℕ) → NoneHasMark mark_of m rows i → has_mark m (mark_of x) ≡ false → NoneHasMark mark_of m (x ∷ rows) (suc i)
  before_all m x rows i none e zero other below there = (let same : x ≡ other = cc in ap (λ z. has_mark m (mark_of z)) (sym same) ∙ e)
  before_all m x rows i none e (suc j) other below there = none j other (omega (arith, below)) there

  first_by : (m n k : ℕ) (x : X) (rows : List X) (place : ℕ) (places : List ℕ) → (marked mark_of m (suc n) k rows ≡ place ∷ places → First m (suc n) rows place)
      → (b : Bool) → has_mark m (mark_of x) ≡ b → cons_if b n (marked mark_of m (suc n) k rows) ≡ place ∷ places → First m n (x ∷ rows) place
  first_by m n k x rows place places later true e here =
      (0, (let same : n ≡ place = cc in omega (arith, same)), record { row = x; there = refl; has = e; before = λ j other below there. absurd (omega (arith, below)) })
  first_by m n k x rows place places later false e is =
      let (i, place_is, first) = later is in
      (suc i, omega (arith, place_is), record { row = first.row; there = first.there; has = first.has; before = before_all m x rows i first.before e })

  first_marked : (m n k : ℕ) (rows : List X) (place : ℕ) (places : List ℕ) → marked mark_of m n k rows ≡ place ∷ places → First m n rows place
  first_marked m n zero rows place places is = cc
  first_marked m n (suc k) [] place places is = cc
  first_marked m n (suc k) (x ∷ rows) place places is = first_by m n k x rows place places (first_marked m (suc n) k rows place places) (has_mark m (mark_of x)) refl is

  none_by : (m n k : ℕ) (x : X) (rows : List X) → (marked mark_of m (suc n) k rows ≡ [] → NoneHasMark mark_of m rows k)
      → (b : Bool) → has_mark m (mark_of x) ≡ b → cons_if b n (marked mark_of m (suc n) k rows) ≡ [] → NoneHasMark mark_of m (x ∷ rows) (suc k)
  none_by m n k x rows later true e none = cc
  none_by m n k x rows later false e none = before_all m x rows k (later none) e

  pub none_marked : (m n k : ℕ) (rows : List X) → marked mark_of m n k rows ≡ [] → NoneHasMark mark_of m rows k
  none_marked m n zero rows is = λ place row below there. absurd (omega (arith, below))
  none_marked m n (suc k) [] is = λ place row below there. cc
  none_marked m n (suc k) (x ∷ rows) is = none_by m n k x rows (none_marked m (suc n) k rows) (has_mark m (mark_of x)) refl is

  pub first_of_marked : (m k : ℕ) (rows : List X) (place : ℕ) (places : List ℕ) → marked mark_of m 0 k rows ≡ place ∷ places → IsFirstMarked mark_of m rows place
  first_of_marked m k rows place places is =
      let (i, place_is, first) = first_marked m 0 k rows place places is in
      subst (IsFirstMarked mark_of m rows) (omega (arith, place_is)) first

  -- by the first of a mark's places
  pub found_first : (m k : ℕ) (rows : List X) (places : List ℕ) (place : ℕ) → slice_get places 0 ≡ Some place → places ≡ marked mark_of m 0 k rows → IsFirstMarked mark_of m rows place
  found_first m k rows [] place at is = cc
  found_first m k rows (p ∷ places) place at is =
      let same : p ≡ place = cc in
      subst (IsFirstMarked mark_of m rows) same (first_of_marked m k rows p places (sym is))

  pub found_none : (m k : ℕ) (rows : List X) (places : List ℕ) → None ≡ slice_get places 0 → places ≡ marked mark_of m 0 k rows → NoneHasMark mark_of m rows k
  found_none m k rows [] at is = none_marked m 0 k rows (sym is)
  found_none m k rows (p ∷ places) at is = cc

  pub none_next : (m : ℕ) (rows : List X) (k : ℕ) (row : X) → NoneHasMark mark_of m rows k → slice_get rows k ≡ Some row → has_mark m (mark_of row) ≡ false → NoneHasMark mark_of m rows (k + 1)
  none_next m rows k row none there without place other below at = elim (cases_lt place k) [
    | inl before ↦ none place other before at
    | inr behind ↦
        let same : place ≡ k = omega (arith, below, behind) in
        let here : slice_get rows k ≡ Some other = subst (λ n. slice_get rows n ≡ Some other) same at in
        let both : row ≡ other = cc in
        subst (λ x. has_mark m (mark_of x) ≡ false) both without
  ]
