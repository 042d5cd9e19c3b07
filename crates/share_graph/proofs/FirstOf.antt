-- The first of some rows, of what these are made into, and of one list after another.
use Rattle.std.proofs.Common.{◌≡◌, ◌++◌, ◌<◌, ℕ, zero, suc, List, [], ◌∷◌, map, Option, Some, None, MatchOption, length, refl, sym, ◌∙◌, ap, subst, inl, inr, arith, append_assoc}
use Rattle.std.specs.List.{filter_map, AllWithin, HoldsAt}
use Rattle.std.proofs.lemmas.List.{map-append}
use Rattle.std.proofs.lemmas.List.Elements.{Contains-append_cases, Contains-append_right, filter_map-append}
use Rattle.std.proofs.lemmas.Option.{same_Some}
use Rattle.share_graph.specs.Keys.{IsFirstOf, IsOneOf, IsNoneOf}
use Rattle.share_graph.proofs.Contained.{contains_at, only}
use Rattle.share_graph.proofs.Unused.{unmapped, unfiltered, in_both}

-- the first is one of them
pub one_of : {X : Type 0} (rows : List X) (P : X → Type 0) (x : X) → IsFirstOf rows P x → IsOneOf rows P x
one_of rows P x first = record {
  listed = rw first.listed (Contains-append_right first.before (x ∷ first.after) x (contains_at (x ∷ first.after) zero x refl));
  is = first.is;
}

pub one_more : {X : Type 0} (P : X → Type 0) (z : X) (rows : List X) (x : X) → (P z → ⊥) → IsFirstOf rows P x → IsFirstOf (z ∷ rows) P x
one_more P z rows x unlike first = record {
  before = z ∷ first.before;
  after = first.after;
  listed = ap (λ r. z ∷ r) first.listed;
  is = first.is;
  earlier = λ other there so. elim (Contains-append_cases (z ∷ []) first.before other there) [
    | inl here ↦ unlike (subst P (sym (only z other here)) so)
    | inr later ↦ first.earlier other later so
  ];
}

first_at : {X : Type 0} (P : X → Type 0) (x : X) (rows : List X) (i : ℕ) → i < length rows → HoldsAt (λ y. y ≡ x) rows i → AllWithin (λ y. P y → ⊥) rows zero i → P x → IsFirstOf rows P x
first_at P x [] i less here none so = absurd (omega arith)
first_at P x (z ∷ rows) zero less here none so = record {
  before = [];
  after = rows;
  listed = ap (λ y. y ∷ rows) (here x);
  is = so;
  earlier = λ other (k, within, same) likewise. absurd (omega arith);
}
first_at P x (z ∷ rows) (suc i) less here none so =
    one_more P z rows x (none zero z (omega arith) (omega arith))
    (first_at P x rows i (omega arith) here (λ k d from below. none (suc k) d (omega arith) (omega arith)) so)

-- what a search through a slice comes to
pub from_search : {X A : Type 0} (P : X → Type 0) (now : A → X) (rows : List X) (r : Option A)
    → MatchOption r (AllWithin (λ y. P y → ⊥) rows zero (length rows)) (λ x. P (now x) × (i : ℕ) × (i < length rows) × HoldsAt (λ y. y ≡ now x) rows i × AllWithin (λ y. P y → ⊥) rows zero i)
    → MatchOption r (IsNoneOf rows P) (λ x. IsFirstOf rows P (now x))
from_search P now rows None none = λ x (k, within, same) so. none k x (omega arith) within (subst P (sym same) so)
from_search P now rows (Some x) (so, i, within, here, none) = first_at P (now x) rows i within here none so

pub found_one : {X A : Type 0} (P : X → Type 0) (now : A → X) (rows : List X) (r : Option A)
    → MatchOption r (IsNoneOf rows P) (λ x. IsFirstOf rows P (now x)) → MatchOption r (IsNoneOf rows P) (λ x. IsOneOf rows P (now x))
found_one P now rows None none = none
found_one P now rows (Some x) first = one_of rows P (now x) first

-- by a key that each row has, from where a row may have none
pub found_by : {X Y A : Type 0} (key : X → Y) (k : Y) (now : A → X) (rows : List X) (r : Option A)
    → MatchOption r (IsNoneOf rows (λ x. Some (key x) ≡ Some k)) (λ x. IsFirstOf rows (λ y. Some (key y) ≡ Some k) (now x))
    → MatchOption r (IsNoneOf rows (λ x. key x ≡ k)) (λ x. IsFirstOf rows (λ y. key y ≡ k) (now x))
found_by key k now rows None none = λ x there so. none x there (ap (λ y. Some y) so)
found_by key k now rows (Some x) first = record {
  before = first.before;
  after = first.after;
  listed = first.listed;
  is = same_Some (key (now x)) k first.is;
  earlier = λ other there so. first.earlier other there (ap (λ y. Some y) so);
}

pub one_by : {X Y A : Type 0} (key : X → Y) (k : Y) (now : A → X) (rows : List X) (r : Option A)
    → MatchOption r (IsNoneOf rows (λ x. Some (key x) ≡ Some k)) (λ x. IsFirstOf rows (λ y. Some (key y) ≡ Some k) (now x))
    → MatchOption r (IsNoneOf rows (λ x. key x ≡ k)) (λ x. IsOneOf rows (λ y. key y ≡ k) (now x))
one_by key k now rows r found = found_one (λ x. key x ≡ k) now rows r (found_by key k now rows r found)

-- the first of the rows is made into the first of what they are made into
pub first_mapped : {X Y : Type 0} (f : X → Y) (P : X → Type 0) (Q : Y → Type 0) (rows : List X) (x : X) (y : Y)
    → ((z : X) → Q (f z) → P z) → f x ≡ y → Q y → IsFirstOf rows P x → IsFirstOf (map f rows) Q y
first_mapped f P Q rows x y back made so first = record {
  before = map f first.before;
  after = map f first.after;
  listed = ap (λ r. map f r) first.listed ∙ map-append f first.before (x ∷ first.after) ∙ ap (λ w. map f first.before ++ w ∷ map f first.after) made;
  is = so;
  earlier = λ other there likewise.
      (let (z, listed, is) = unmapped f first.before other there in
      first.earlier z listed (back z (subst Q (sym is) likewise)));
}

kept : {X Y : Type 0} (f : X → Option Y) (x : X) (rows : List X) (y : Y) → f x ≡ Some y → filter_map f (x ∷ rows) ≡ y ∷ filter_map f rows
kept f x rows y made = rw made refl

pub first_filtered : {X Y : Type 0} (f : X → Option Y) (P : X → Type 0) (Q : Y → Type 0) (rows : List X) (x : X) (y : Y)
    → ((z : X) (w : Y) → f z ≡ Some w → Q w → P z) → f x ≡ Some y → Q y → IsFirstOf rows P x → IsFirstOf (filter_map f rows) Q y
first_filtered f P Q rows x y back made so first = record {
  before = filter_map f first.before;
  after = filter_map f first.after;
  listed = ap (λ r. filter_map f r) first.listed ∙ filter_map-append f first.before (x ∷ first.after) ∙ ap (λ r. filter_map f first.before ++ r) (kept f x first.after y made);
  is = so;
  earlier = λ other there likewise.
      (let (z, listed, is) = unfiltered f first.before other there in
      first.earlier z listed (back z other is likewise));
}

-- and it is the first whatever comes after, and whatever of which it isn't so comes before
pub first_left : {X : Type 0} (P : X → Type 0) (xs ys : List X) (x : X) → IsFirstOf xs P x → IsFirstOf (xs ++ ys) P x
first_left P xs ys x first = record {
  before = first.before;
  after = first.after ++ ys;
  listed = ap (λ r. r ++ ys) first.listed ∙ append_assoc first.before (x ∷ first.after) ys;
  is = first.is;
  earlier = first.earlier;
}

pub first_right : {X : Type 0} (P : X → Type 0) (xs ys : List X) (x : X) → IsNoneOf xs P → IsFirstOf ys P x → IsFirstOf (xs ++ ys) P x
first_right P xs ys x none first = record {
  before = xs ++ first.before;
  after = first.after;
  listed = ap (λ r. xs ++ r) first.listed ∙ sym (append_assoc xs first.before (x ∷ first.after));
  is = first.is;
  earlier = in_both P xs first.before none first.earlier;
}
