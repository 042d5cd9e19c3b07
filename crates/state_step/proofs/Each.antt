-- What is so of each row by its place, and of each two rows, is so once a row is added that has it too.
use Rattle.std.proofs.Common.{◌≡◌, ◌<◌, ◌+◌, ◌⊎◌, ℕ, zero, suc, List, [], ◌∷◌, ◌++◌, All, Contains, Some, length, take, slice_get, get_or, refl, sym, ◌∙◌, ap, subst, arith, inl, inr}
use Rattle.std.proofs.lemmas.List.{get_or-take, length-take}
use Rattle.std.proofs.lemmas.Option.{slice_get_within, slice_get-get_or, get_or_from_slice_get}
use Rattle.share_graph.specs.Rows.{row}
use Rattle.share_graph.specs.WellFormed.{AreNumbered}
use Rattle.share_graph.proofs.Contained.{contains_at}

-- so of each row, at its place from 0
abbrev pub Each : {X : Type 0} → (ℕ → X → Type 0) → List X → Type 0
Each {X} P rows = (k : ℕ) (row : X) → slice_get rows k ≡ Some row → P k row

-- no two rows have one key
abbrev pub AreApartBy : {X K : Type 0} → (X → K) → List X → Type 0
AreApartBy {X} key rows = (i j : ℕ) (x y : X) → slice_get rows i ≡ Some x → slice_get rows j ≡ Some y → key x ≡ key y → i ≡ j

-- a row of a list with one more is one of the list, or the new one
pub push_cases : {X : Type 0} (xs : List X) (y : X) (k : ℕ) (z : X) → slice_get (xs ++ y ∷ []) k ≡ Some z → ((k < length xs) × (slice_get xs k ≡ Some z)) ⊎ ((k ≡ length xs) × (y ≡ z))
push_cases [] y zero z is = inr (refl, cc)
push_cases [] y (suc k) z is = cc is
push_cases (x ∷ xs) y zero z is = inl (omega arith, is)
push_cases (x ∷ xs) y (suc k) z is = elim (push_cases xs y k z is) [
  | inl (less, there) ↦ inl (omega arith, there)
  | inr (same, new) ↦ inr (omega arith, new)
]

push_old : {X : Type 0} (xs ys : List X) (k : ℕ) (x : X) → slice_get xs k ≡ Some x → slice_get (xs ++ ys) k ≡ Some x
push_old [] ys k x is = cc is
push_old (y ∷ xs) ys zero x is = is
push_old (y ∷ xs) ys (suc k) x is = push_old xs ys k x is

-- a row that was there is there again
pub push_old_row : {X : Type 0} (xs ys : List X) (n : ℕ) (x : X) → row xs n ≡ Some x → row (xs ++ ys) n ≡ Some x
push_old_row xs ys zero x is = cc is
push_old_row xs ys (suc k) x is = push_old xs ys k x is

-- what is so of each row, and of the new one
pub each_pushed : {X : Type 0} (P : ℕ → X → Type 0) (xs : List X) (y : X) → Each P xs → P (length xs) y → Each P (xs ++ y ∷ [])
each_pushed {X} P xs y each here k z is = elim (push_cases xs y k z is) [
  | inl (less, there) ↦ each k z there
  | inr (last, same) ↦ subst (λ (x : X). P k x) same (subst (λ (n : ℕ). P n y) (sym last) here)
]

-- rows that are numbered stay so where the next has the next number
pub numbered_pushed : {X : Type 0} (num : X → ℕ) (xs : List X) (y : X) → AreNumbered num xs → num y ≡ length xs + 1 → AreNumbered num (xs ++ y ∷ [])
numbered_pushed num xs y numbered next = each_pushed (λ k x. num x ≡ k + 1) xs y numbered next

-- rows are apart by a key that no row before the new one has
pub apart_pushed : {X K : Type 0} (key : X → K) (xs : List X) (y : X) → AreApartBy key xs → ((x : X) → Contains xs x → key x ≡ key y → ⊥) → AreApartBy key (xs ++ y ∷ [])
apart_pushed key xs y apart free i j a b at there same = elim (push_cases xs y i a at) [
  | inl (below, old) ↦ elim (push_cases xs y j b there) [
    | inl (less, also) ↦ apart i j a b old also same
    | inr (last, new) ↦ absurd (free a (contains_at xs i a old) (same ∙ sym (ap key new)))
  ]
  | inr (end, new) ↦ elim (push_cases xs y j b there) [
    | inl (less, old) ↦ absurd (free b (contains_at xs j b old) (sym same ∙ sym (ap key new)))
    | inr (last, also) ↦ end ∙ sym last
  ]
]

-- no row before a place is so
pub none_before : {X : Type 0} (P : X → Type 0) (rows : List X) (k : ℕ) → ((j : ℕ) (y : X) → j < k → slice_get rows j ≡ Some y → P y → ⊥) → All (λ y. P y → ⊥) (take k rows)
none_before P rows k none j d less is =
    let long = length-take k rows in
    let below : j < k = omega arith in
    let within : j < length rows = omega arith in
    none j (get_or rows j d) below (slice_get-get_or rows j d within) (subst P (get_or-take k rows j d below) is)

-- and the other way round
pub before_none : {X : Type 0} (P : X → Type 0) (rows : List X) (k : ℕ) → All (λ y. P y → ⊥) (take k rows) → (j : ℕ) (y : X) → j < k → slice_get rows j ≡ Some y → P y → ⊥
before_none P rows k all j y less there is =
    let long = length-take k rows in
    let within : j < length rows = slice_get_within rows j y there in
    let short : j < length (take k rows) = omega arith in
    all j y short (subst P (sym (get_or-take k rows j y less ∙ get_or_from_slice_get rows j y y there)) is)

-- so of each row at its place, and so of all
pub all_from_each : {X : Type 0} (P : X → Type 0) (rows : List X) → Each (λ k x. P x) rows → All P rows
all_from_each P rows each k d less = each k (get_or rows k d) (slice_get-get_or rows k d less)

pub each_from_all : {X : Type 0} (P : X → Type 0) (rows : List X) → All P rows → Each (λ k x. P x) rows
each_from_all P rows all k x there = subst P (get_or_from_slice_get rows k x x there) (all k x (slice_get_within rows k x there))
