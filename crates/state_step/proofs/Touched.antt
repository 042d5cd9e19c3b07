-- Lists of which some rows are changed: what the change keeps is kept of the list.
use Rattle.std.proofs.Common.{◌≡◌, ◌⊎◌, ℕ, Bool, true, false, zero, suc, List, [], ◌∷◌, Contains, map, Option, Some, if◌then◌else◌, length, slice_get, refl, sym, ◌∙◌, ap, subst, inl, inr}
use Rattle.std.specs.List.{AllZip, filter_map, cons_option}
use Rattle.std.proofs.lemmas.List.Elements.{length_all_zip}
use Rattle.share_graph.specs.Changing.{change, change_row}
use Rattle.share_graph.specs.Rows.{row}
use Rattle.share_graph.specs.WellFormed.{AreNumbered}
use Rattle.share_graph.proofs.Contained.{contains_at, place_of}
use Rattle.state_step.proofs.Each.{Each, AreApartBy}

-- the row is as it was, or changed
abbrev pub IsSameOr : {X : Type 0} → (X → X) → X → X → Type 0
IsSameOr f x y = (x ≡ y) ⊎ (f x ≡ y)

-- each row is as it was, or changed
abbrev pub AreTouched : {X : Type 0} → (X → X) → List X → List X → Type 0
AreTouched f xs ys = AllZip (IsSameOr f) xs ys

untouched : {X : Type 0} (f : X → X) (xs : List X) → AreTouched f xs xs
untouched f [] = tt
untouched f (x ∷ xs) = (inl refl, untouched f xs)

change_touches : {X : Type 0} (f : X → X) (xs : List X) (i : ℕ) → AreTouched f xs (change f xs i)
change_touches f [] i = tt
change_touches f (x ∷ xs) zero = (inr refl, untouched f xs)
change_touches f (x ∷ xs) (suc i) = (inl refl, change_touches f xs i)

-- a change of the row of a number is one
pub change_row_touches : {X : Type 0} (f : X → X) (xs : List X) (n : ℕ) → AreTouched f xs (change_row f xs n)
change_row_touches f xs zero = untouched f xs
change_row_touches f xs (suc i) = change_touches f xs i

changed_at : {X : Type 0} (f : X → X) (xs : List X) (i k : ℕ) (y : X) → slice_get (change f xs i) k ≡ Some y → (slice_get xs k ≡ Some y) ⊎ ((i ≡ k) × (x : X) × (slice_get xs k ≡ Some x) × (f x ≡ y))
changed_at f [] i k y is = cc is
changed_at f (x ∷ xs) zero zero y is = inr (refl, x, refl, cc)
changed_at f (x ∷ xs) zero (suc k) y is = inl is
changed_at f (x ∷ xs) (suc i) zero y is = inl is
changed_at f (x ∷ xs) (suc i) (suc k) y is = elim (changed_at f xs i k y is) [
  | inl same ↦ inl same
  | inr (here, was, there, changed) ↦ inr (ap suc here, was, there, changed)
]

-- a row at a place is as it was, or it is the one that is changed
pub changed_row_at : {X : Type 0} (f : X → X) (xs : List X) (n k : ℕ) (y : X) → slice_get (change_row f xs n) k ≡ Some y → (slice_get xs k ≡ Some y) ⊎ ((n ≡ suc k) × (x : X) × (slice_get xs k ≡ Some x) × (f x ≡ y))
changed_row_at f xs zero k y is = inl is
changed_row_at f xs (suc i) k y is = elim (changed_at f xs i k y is) [
  | inl same ↦ inl same
  | inr (here, was, there, changed) ↦ inr (ap suc here, was, there, changed)
]

-- what stands in a mapped list is of the row at its place
pub mapped_from : {X Y : Type 0} (key : X → Y) (xs : List X) (k : ℕ) (y : Y) → slice_get (map key xs) k ≡ Some y → (x : X) × (slice_get xs k ≡ Some x) × (key x ≡ y)
mapped_from key [] k y is = cc is
mapped_from key (x ∷ xs) zero y is = (x, refl, cc)
mapped_from key (x ∷ xs) (suc k) y is = mapped_from key xs k y is

-- and so is a change of the first row that passes
pub first_touches : {X : Type 0} (f : X → X) (test : Bool) (x : X) (xs rest : List X) → AreTouched f xs rest → AreTouched f (x ∷ xs) (if test then f x ∷ xs else x ∷ rest)
first_touches f true x xs rest touched = (inr refl, untouched f xs)
first_touches f false x xs rest touched = (inl refl, touched)

module _ {X : Type 0} (f : X → X) where
  -- each row was there, and is the same or changed
  pub touched_from : (xs ys : List X) → AreTouched f xs ys → (k : ℕ) (y : X) → slice_get ys k ≡ Some y → (x : X) × (slice_get xs k ≡ Some x) × IsSameOr f x y
  touched_from [] [] touched k y is = cc is
  touched_from [] (z ∷ ys) touched k y is = absurd touched
  touched_from (x ∷ xs) [] touched k y is = absurd touched
  touched_from (x ∷ xs) (z ∷ ys) touched zero y is = (let same : z ≡ y = cc in (x, refl, subst (λ (w : X). IsSameOr f x w) same touched.0))
  touched_from (x ∷ xs) (z ∷ ys) touched (suc k) y is = touched_from xs ys touched.1 k y is

  -- each row is there again, the same or changed
  touched_to : (xs ys : List X) → AreTouched f xs ys → (k : ℕ) (x : X) → slice_get xs k ≡ Some x → (y : X) × (slice_get ys k ≡ Some y) × IsSameOr f x y
  touched_to [] [] touched k x is = cc is
  touched_to [] (z ∷ ys) touched k x is = absurd touched
  touched_to (w ∷ xs) [] touched k x is = absurd touched
  touched_to (w ∷ xs) (z ∷ ys) touched zero x is = (let same : w ≡ x = cc in (z, refl, subst (λ (v : X). IsSameOr f v z) same touched.0))
  touched_to (w ∷ xs) (z ∷ ys) touched (suc k) x is = touched_to xs ys touched.1 k x is

  -- the row of a number is there again
  pub touched_row : (xs ys : List X) → AreTouched f xs ys → (n : ℕ) (x : X) → row xs n ≡ Some x → (y : X) × (row ys n ≡ Some y) × IsSameOr f x y
  touched_row xs ys touched zero x is = cc is
  touched_row xs ys touched (suc k) x is = touched_to xs ys touched k x is

  -- a row that is listed is listed again
  pub touched_listed : (xs ys : List X) → AreTouched f xs ys → (x : X) → Contains xs x → (y : X) × Contains ys y × IsSameOr f x y
  touched_listed xs ys touched x listed =
      let (k, there) = place_of xs x listed in
      let (y, again, same) = touched_to xs ys touched k x there in
      (y, contains_at ys k y again, same)

  -- there are as many
  pub length_touched : (xs ys : List X) → AreTouched f xs ys → length xs ≡ length ys
  length_touched xs ys touched = length_all_zip (IsSameOr f) xs ys touched

  -- a key that the change keeps
  pub same_key : {K : Type 0} (key : X → K) → ((x : X) → key (f x) ≡ key x) → (x y : X) → IsSameOr f x y → key y ≡ key x
  same_key key keeps x y (inl same) = ap key (sym same)
  same_key key keeps x y (inr changed) = ap key (sym changed) ∙ keeps x

  -- what the change keeps of each row
  pub each_touched : (P : ℕ → X → Type 0) → ((k : ℕ) (x : X) → P k x → P k (f x)) → (xs ys : List X) → AreTouched f xs ys → Each P xs → Each P ys
  each_touched P keeps xs ys touched each k y is =
      let (x, there, same) = touched_from xs ys touched k y is in
      elim same [
        | inl e ↦ subst (P k) e (each k x there)
        | inr e ↦ subst (P k) e (keeps k x (each k x there))
      ]

  -- numbers
  pub numbered_touched : (num : X → ℕ) → ((x : X) → num (f x) ≡ num x) → (xs ys : List X) → AreTouched f xs ys → AreNumbered num xs → AreNumbered num ys
  numbered_touched num keeps xs ys touched numbered k y is =
      let (x, there, same) = touched_from xs ys touched k y is in
      same_key num keeps x y same ∙ numbered k x there

  -- rows that are apart by a key
  pub apart_touched : {K : Type 0} (key : X → K) → ((x : X) → key (f x) ≡ key x) → (xs ys : List X) → AreTouched f xs ys → AreApartBy key xs → AreApartBy key ys
  apart_touched key keeps xs ys touched apart i j a b at there same =
      let (x, was, from) = touched_from xs ys touched i a at in
      let (y, was', from') = touched_from xs ys touched j b there in
      apart i j x y was was' (sym (same_key key keeps x a from) ∙ same ∙ same_key key keeps y b from')

  -- keys of all rows
  pub map_touched : {K : Type 0} (key : X → K) → ((x : X) → key (f x) ≡ key x) → (xs ys : List X) → AreTouched f xs ys → map key ys ≡ map key xs
  map_touched key keeps [] [] touched = refl
  map_touched key keeps [] (y ∷ ys) touched = absurd touched
  map_touched key keeps (x ∷ xs) [] touched = absurd touched
  map_touched {K} key keeps (x ∷ xs) (y ∷ ys) touched =
      ap (λ (k : K). k ∷ map key ys) (same_key key keeps x y touched.0) ∙ ap (λ (ks : List K). key x ∷ ks) (map_touched key keeps xs ys touched.1)

  -- keys of the rows that have one
  pub filter_map_touched : {K : Type 0} (key : X → Option K) → ((x : X) → key (f x) ≡ key x) → (xs ys : List X) → AreTouched f xs ys → filter_map key ys ≡ filter_map key xs
  filter_map_touched key keeps [] [] touched = refl
  filter_map_touched key keeps [] (y ∷ ys) touched = absurd touched
  filter_map_touched key keeps (x ∷ xs) [] touched = absurd touched
  filter_map_touched {K} key keeps (x ∷ xs) (y ∷ ys) touched =
      ap (λ (o : Option K). cons_option o (filter_map key ys)) (same_key key keeps x y touched.0)
      ∙ ap (λ (ks : List K). cons_option (key x) ks) (filter_map_touched key keeps xs ys touched.1)
