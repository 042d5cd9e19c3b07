-- What a list contains, by place and by number.
use Rattle.std.proofs.Common.{◌≡◌, ◌+◌, ℕ, zero, suc, List, [], ◌∷◌, map, Contains, Option, Some, None, length, slice_get, refl, sym, ◌∙◌, ap, arith, subst, add-one}
use Rattle.std.specs.List.{filter_map}
use Rattle.std.specs.Option.{option_map}
use Rattle.std.proofs.lemmas.List.Elements.{Contains-append_right}
use Rattle.std.proofs.lemmas.Option.{slice_get-map, slice_get_within, slice_get_read, get_or_from_slice_get}
use Rattle.share_graph.specs.Forms.{IsOne}
use Rattle.share_graph.specs.Keys.{IsOneOf}
use Rattle.share_graph.specs.Rows.{row}
use Rattle.share_graph.specs.WellFormed.{AreNumbered}

-- what stands at a place is contained
pub contains_at : {X : Type 0} (rows : List X) (k : ℕ) (x : X) → slice_get rows k ≡ Some x → Contains rows x
contains_at rows k x is = (k, slice_get_within rows k x is, get_or_from_slice_get rows k x x is)

-- one row alone contains no other
pub only : {X : Type 0} (x y : X) → Contains (x ∷ []) y → x ≡ y
only x y (zero, less, same) = same
only x y (suc k, less, same) = absurd (omega arith)

-- and what is contained stands at a place
pub place_of : {X : Type 0} (rows : List X) (x : X) → Contains rows x → (k : ℕ) × (slice_get rows k ≡ Some x)
place_of rows x (k, less, is) = (k, slice_get_read rows (length rows) k x refl less (sym is))

pub contains-map : {X Y : Type 0} (f : X → Y) (rows : List X) (x : X) → Contains rows x → Contains (map f rows) (f x)
contains-map f rows x listed =
    let (k, is) = place_of rows x listed in
    contains_at (map f rows) k (f x) (slice_get-map f rows k ∙ ap (λ o. option_map f o) is)

kept_at : {X Y : Type 0} (f : X → Option Y) (x : X) (rows : List X) (y : Y) (o : Option Y) → o ≡ f x → Contains (filter_map f rows) y → Contains (filter_map f (x ∷ rows)) y
kept_at f x rows y None same there = rw (← same) there
kept_at f x rows y (Some z) same there = rw (← same) (Contains-append_right (z ∷ []) (filter_map f rows) y there)

filtered_at : {X Y : Type 0} (f : X → Option Y) (rows : List X) (k : ℕ) (x : X) (y : Y) → slice_get rows k ≡ Some x → f x ≡ Some y → Contains (filter_map f rows) y
filtered_at f [] k x y is has = cc is
filtered_at f (z ∷ rows) zero x y is has = let same : z ≡ x = cc in let at : f z ≡ Some y = ap f same ∙ has in rw at (zero, omega arith, refl)
filtered_at f (z ∷ rows) (suc k) x y is has = kept_at f z rows y (f z) refl (filtered_at f rows k x y is has)

pub contains-filter_map : {X Y : Type 0} (f : X → Option Y) (rows : List X) (x : X) (y : Y) → Contains rows x → f x ≡ Some y → Contains (filter_map f rows) y
contains-filter_map f rows x y listed has = let (k, is) = place_of rows x listed in filtered_at f rows k x y is has

-- the row at a place has the number after it
pub row_after : {X : Type 0} (rows : List X) (i : ℕ) (here : X) → slice_get rows i ≡ Some here → row rows (i + 1) ≡ Some here
row_after rows i here is = rw add-one is

-- a row that is listed is the row of its number
pub listed_row : {X : Type 0} (num : X → ℕ) (rows : List X) (x : X) → AreNumbered num rows → Contains rows x → row rows (num x) ≡ Some x
listed_row num rows x by_place listed =
    let (k, there) = place_of rows x listed in
    subst (λ (n : ℕ). row rows n ≡ Some x) (sym (by_place k x there)) (row_after rows k x there)

-- a row of a number is listed
pub row_listed : {X : Type 0} (rows : List X) (n : ℕ) (x : X) → row rows n ≡ Some x → Contains rows x
row_listed rows zero x is = cc is
row_listed rows (suc i) x is = contains_at rows i x is

-- rows that are so, and whose numbers are then one, are one row
pub single : {X : Type 0} (num : X → ℕ) (rows : List X) (P : X → Type 0) → AreNumbered num rows → ((x y : X) → IsOneOf rows P x → IsOneOf rows P y → num x ≡ num y) → IsOne (λ (x : X). IsOneOf rows P x)
single num rows P by_place same = record {
  one = λ x y a b.
      (let here : row rows (num x) ≡ Some x = listed_row num rows x by_place a.listed in
      let there : row rows (num y) ≡ Some y = listed_row num rows y by_place b.listed in
      let both : Some x ≡ Some y = sym here ∙ ap (λ (n : ℕ). row rows n) (same x y a b) ∙ there in
      cc);
}
