-- A row that is put among the rows of tables.
use Rattle.std.proofs.Common.{◌≡◌, ℕ, zero, suc, ◌+◌, ◌<◌, ◌≤◌, true, false, eqb, ltb, ◌&&◌, ◌||◌, List, [], ◌∷◌, ◌++◌, length, Option, Some, refl, sym, ap, subst, ◌∙◌, append_assoc, arith}
use Rattle.std.specs.Prelude.{All, slice_get, option_map}
use Rattle.std.proofs.lemmas.Bool.{lt-ltb, le-ltb, eq-eqb}
use Rattle.std.proofs.lemmas.Bool.Decides.{nat_tests}
use Rattle.std.proofs.lemmas.List.Elements.{All-nil, All-cons, All-head, All-tail, All-append}
use Rattle.share_graph.specs.Changing.{change, change_row}
use Rattle.share_graph.specs.Rows.{row}
use Rattle.cloud_keeper.specs.declared.row.Row.{Row}
use Rattle.cloud_keeper.specs.Keeping.{is_before, put}
use Rattle.row_formats.specs.Format.{Format}
use Rattle.row_tables.specs.Sections.{stored, section_rows}
use Rattle.row_tables.specs.Kept.{with_row}
use Rattle.row_tables.proofs.Listing.{section_rows-push}
use Rattle.row_tables.proofs.ListRows.{row_added, row_changed}

-- ---- the order of two rows

kinds_before : (k l n m : ℕ) → k < l → (ltb k l || (eqb k l && ltb n m)) ≡ true
kinds_before k l n m lt = rw (lt-ltb k l lt) refl

pub num_first : (k n m : ℕ) → n < m → (ltb k k || (eqb k k && ltb n m)) ≡ true
num_first k n m lt = rw (le-ltb k k (omega arith), eq-eqb k k refl, lt-ltb n m lt) refl

kinds_not : (k l n m : ℕ) → l < k → (ltb k l || (eqb k l && ltb n m)) ≡ false
kinds_not k l n m lt = grind (arith, nat_tests)

not_itself : (k n : ℕ) → (ltb k k || (eqb k k && ltb n n)) ≡ false
not_itself k n = rw (le-ltb k k (omega arith), eq-eqb k k refl, le-ltb n n (omega arith)) refl

pub kind_first : (a b : Row) → a.kind < b.kind → is_before a b ≡ true
kind_first a b lt = kinds_before a.kind b.kind a.num b.num lt

-- ---- rows that stand before a row, and behind it

abbrev pub AreBefore : Row → List Row → Type 0
AreBefore r rows = All (λ (other : Row). is_before other r ≡ true) rows

-- all are of larger kinds
abbrev pub AreAbove : ℕ → List Row → Type 0
AreAbove kind rows = All (λ (other : Row). kind < other.kind) rows

pub section_before : {A : Type 0} (r : Row) (kind : ℕ) (format : ℕ → Format A) (n : ℕ) (xs : List A) → kind < r.kind → AreBefore r (section_rows kind format n xs)
section_before r kind format n [] lt = All-nil (λ (other : Row). is_before other r ≡ true)
section_before r kind format n (x ∷ xs) lt =
    All-cons (λ (other : Row). is_before other r ≡ true) (stored kind format n x) (section_rows kind format (suc n) xs) (kind_first (stored kind format n x) r lt) (section_before r kind format (suc n) xs lt)

earlier_before : {A : Type 0} (kind : ℕ) (format : ℕ → Format A) (m : ℕ) (y : A) (n : ℕ) (xs : List A) → n + length xs ≤ m → AreBefore (stored kind format m y) (section_rows kind format n xs)
earlier_before kind format m y n [] le = All-nil (λ (other : Row). is_before other (stored kind format m y) ≡ true)
earlier_before kind format m y n (x ∷ xs) le =
    All-cons (λ (other : Row). is_before other (stored kind format m y) ≡ true) (stored kind format n x) (section_rows kind format (suc n) xs) (num_first kind n m (omega arith)) (earlier_before kind format m y (suc n) xs (omega arith))

pub section_above : {A : Type 0} (low kind : ℕ) (format : ℕ → Format A) (n : ℕ) (xs : List A) → low < kind → AreAbove low (section_rows kind format n xs)
section_above low kind format n [] lt = All-nil (λ (other : Row). low < other.kind)
section_above low kind format n (x ∷ xs) lt = All-cons (λ (other : Row). low < other.kind) (stored kind format n x) (section_rows kind format (suc n) xs) lt (section_above low kind format (suc n) xs lt)

pub both_above : (low : ℕ) (a b : List Row) → AreAbove low a → AreAbove low b → AreAbove low (a ++ b)
both_above low a b h k = All-append (λ (other : Row). low < other.kind) a b h k

-- ---- what is put

put_past : (r : Row) (a b : List Row) → AreBefore r a → put r (a ++ b) ≡ a ++ put r b
put_past r [] b h = refl
put_past r (x ∷ a) b h =
    rw (All-head (λ (other : Row). is_before other r ≡ true) x a h) (ap (λ (rows : List Row). x ∷ rows) (put_past r a b (All-tail (λ (other : Row). is_before other r ≡ true) x a h)))

-- behind rows that stand before it
pub puts_past : (r : Row) (a b new : List Row) → AreBefore r a → put r b ≡ new → put r (a ++ b) ≡ a ++ new
puts_past r a b new h e = put_past r a b h ∙ ap (λ (rows : List Row). a ++ rows) e

put_front : (r : Row) (rows : List Row) → AreAbove r.kind rows → put r rows ≡ r ∷ rows
put_front r [] h = refl
put_front r (x ∷ rows) h =
    let above : r.kind < x.kind = All-head (λ (other : Row). r.kind < other.kind) x rows h in
    rw (kinds_not x.kind r.kind x.num r.num above, kinds_before r.kind x.kind r.num x.num above) refl

-- one more row of a kind, behind the others of its kind
added_in : {A : Type 0} (kind : ℕ) (format : ℕ → Format A) (xs : List A) (x : A) (high : List Row) → AreAbove kind high
    → put (stored kind format (1 + length xs) x) (section_rows kind format 1 xs ++ high) ≡ section_rows kind format 1 (xs ++ x ∷ []) ++ high
added_in kind format xs x high above =
    let r : Row = stored kind format (1 + length xs) x in
    puts_past r (section_rows kind format 1 xs) high (r ∷ high) (earlier_before kind format (1 + length xs) x 1 xs (omega arith)) (put_front r high above)
    ∙ sym (append_assoc (section_rows kind format 1 xs) (r ∷ []) high)
    ∙ ap (λ (rows : List Row). rows ++ high) (sym (section_rows-push kind format 1 xs x))

some_same : {X : Type 0} (x y : X) → Some x ≡ Some y → x ≡ y
some_same x y e = cc

-- a changed row of a kind, in its place
changed_at : {A : Type 0} (kind : ℕ) (format : ℕ → Format A) (f : A → A) (n : ℕ) (xs : List A) (i : ℕ) (x : A) (high : List Row) → slice_get xs i ≡ Some x
    → put (stored kind format (n + i) (f x)) (section_rows kind format n xs ++ high) ≡ section_rows kind format n (change f xs i) ++ high
changed_at kind format f n [] i x high e = absurd cc
changed_at {A} kind format f n (y ∷ ys) zero x high e =
    let place : n + 0 ≡ n = omega arith in
    let new : f x ≡ f y = ap f (sym (some_same y x e)) in
    let others : List Row = section_rows kind format (suc n) ys ++ high in
    let here : put (stored kind format n (f x)) (stored kind format n y ∷ others) ≡ stored kind format n (f x) ∷ others = rw (not_itself kind n) refl in
    subst (λ (m : ℕ). put (stored kind format m (f x)) (stored kind format n y ∷ others) ≡ stored kind format n (f y) ∷ others) (sym place)
    (here ∙ ap (λ (z : A). stored kind format n z ∷ others) new)
changed_at {A} kind format f n (y ∷ ys) (suc i) x high e =
    let place : suc n + i ≡ n + suc i = omega arith in
    let first : is_before (stored kind format n y) (stored kind format (n + suc i) (f x)) ≡ true = num_first kind n (n + suc i) (omega arith) in
    let later : put (stored kind format (n + suc i) (f x)) (section_rows kind format (suc n) ys ++ high) ≡ section_rows kind format (suc n) (change f ys i) ++ high =
    subst (λ (m : ℕ). put (stored kind format m (f x)) (section_rows kind format (suc n) ys ++ high) ≡ section_rows kind format (suc n) (change f ys i) ++ high) place (changed_at kind format f (suc n) ys i x high e) in
    rw first (ap (λ (rows : List Row). stored kind format n y ∷ rows) later)

-- ---- the row that an event adds or changes

-- the row that is added is this one, and put it stands behind those of its kind
pub added : {A : Type 0} (kind : ℕ) (format : ℕ → Format A) (xs : List A) (x : A) (n : ℕ) (high : List Row) → n ≡ length xs + 1 → AreAbove kind high
    → (option_map (stored kind format n) (row (xs ++ x ∷ []) n) ≡ Some (stored kind format n x)) × (put (stored kind format n x) (section_rows kind format 1 xs ++ high) ≡ section_rows kind format 1 (xs ++ x ∷ []) ++ high)
added {A} kind format xs x n high e above =
    let place : 1 + length xs ≡ n = omega (arith, e) in (
      ap (λ (o : Option A). option_map (stored kind format n) o) (row_added xs x n e),
      subst (λ (m : ℕ). put (stored kind format m x) (section_rows kind format 1 xs ++ high) ≡ section_rows kind format 1 (xs ++ x ∷ []) ++ high) place (added_in kind format xs x high above),
    )

-- the row that is changed is this one, and put it stands in its place
pub changed : {A : Type 0} (kind : ℕ) (format : ℕ → Format A) (f : A → A) (xs : List A) (n : ℕ) (x : A) (high : List Row) → row xs n ≡ Some x
    → (option_map (stored kind format n) (row (change_row f xs n) n) ≡ Some (stored kind format n (f x))) × (put (stored kind format n (f x)) (section_rows kind format 1 xs ++ high) ≡ section_rows kind format 1 (change_row f xs n) ++ high)
changed kind format f xs zero x high e = absurd cc
changed {A} kind format f xs (suc i) x high e =
    let place : 1 + i ≡ suc i = omega arith in (
      ap (λ (o : Option A). option_map (stored kind format (suc i)) o) (row_changed f xs (suc i) ∙ ap (λ (o : Option A). option_map f o) e),
      subst (λ (m : ℕ). put (stored kind format m (f x)) (section_rows kind format 1 xs ++ high) ≡ section_rows kind format 1 (change f xs i) ++ high) place (changed_at kind format f 1 xs i x high e),
    )

-- rows with that row put among them
pub with_that : (o : Option Row) (r : Row) (rows new : List Row) → o ≡ Some r → put r rows ≡ new → with_row o rows ≡ new
with_that o r rows new e h = ap (λ (p : Option Row). with_row p rows) e ∙ h
