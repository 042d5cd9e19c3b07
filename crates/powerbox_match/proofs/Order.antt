-- The order of items in a list, and what it says of matching.
use Rattle.std.proofs.Common.{◌≡◌, ℕ, suc, ◌<◌, ◌≤◌, ℤ, Bool, true, false, List, [], ◌∷◌, Ordering, Less, Equal, Greater, nat_cmp, is_eq, length, get_or, refl, sym, ap, ◌∙◌, arith}
use Rattle.std.specs.Cmp.{IsTotalOrder, IsStrictWeakOrder}
use Rattle.std.specs.Cmp.Lexicographic.{slice_cmp}
use Rattle.std.specs.Ordering.{int_cmp, int_eq, is_lt, on, then_cmp, ordering_then, ordering_reverse}
use Rattle.std.specs.Str.{bytes_eq}
use Rattle.std.proofs.lemmas.Cmp.{on_total, then_total, nat_cmp_total, int_cmp_total, nat_list_cmp_total, lists_total}
use Rattle.std.specs.List.Sorted.{IsSortedBy}
use Rattle.std.proofs.lemmas.List.MinMax.{ranks_by}
use Rattle.std.proofs.lemmas.List.Sorted.{sorted_far}
use Rattle.std.proofs.lemmas.Map.Text.{is_eq-slice_cmp}
use Rattle.powerbox_match.specs.declared.value.TagValue.{TagValue}
use Rattle.powerbox_match.specs.Value.{TagData, any, number, text, fields, items, tag_data, items_data}
use Rattle.powerbox_match.specs.Matching.{value_matches}
use Rattle.powerbox_match.specs.Sorted.{item_rank, item_cmp, is_first, is_in_order}

-- ---- a total order

-- the number and the text by which an item is ordered, if any
abbrev number_in : TagData → List ℤ
number_in (number n) = n ∷ []
number_in v = []

abbrev text_in : TagData → List ℕ
text_in (text t) = t
text_in v = []

abbrev keyed_cmp : TagData → TagData → Ordering
keyed_cmp = then_cmp (on item_rank nat_cmp) (then_cmp (on number_in (slice_cmp int_cmp)) (on text_in (slice_cmp nat_cmp)))

keyed_total : IsTotalOrder keyed_cmp
keyed_total = then_total (on_total item_rank nat_cmp_total) (then_total (on_total number_in (lists_total int_cmp_total)) (on_total text_in nat_list_cmp_total))

then_equal : (o : Ordering) → ordering_then (ordering_then o Equal) Equal ≡ o
then_equal Less = refl
then_equal Equal = refl
then_equal Greater = refl

by_keys : (v w : TagData) → keyed_cmp v w ≡ item_cmp v w
by_keys any any = refl
by_keys any (number m) = refl
by_keys any (text t) = refl
by_keys any (fields gs) = refl
by_keys any (items ws) = refl
by_keys (number n) any = refl
by_keys (number n) (number m) = then_equal (int_cmp n m)
by_keys (number n) (text t) = refl
by_keys (number n) (fields gs) = refl
by_keys (number n) (items ws) = refl
by_keys (text s) any = refl
by_keys (text s) (number m) = refl
by_keys (text s) (text t) = refl
by_keys (text s) (fields gs) = refl
by_keys (text s) (items ws) = refl
by_keys (fields fs) any = refl
by_keys (fields fs) (number m) = refl
by_keys (fields fs) (text t) = refl
by_keys (fields fs) (fields gs) = refl
by_keys (fields fs) (items ws) = refl
by_keys (items vs) any = refl
by_keys (items vs) (number m) = refl
by_keys (items vs) (text t) = refl
by_keys (items vs) (fields gs) = refl
by_keys (items vs) (items ws) = refl

pub item_total : IsTotalOrder item_cmp
item_total =
    record {
      antisymm = λ v w. sym (by_keys v w) ∙ keyed_total.antisymm v w ∙ ap ordering_reverse (by_keys w v);
      trans = λ u v w h k. sym (by_keys u w) ∙ keyed_total.trans u v w (by_keys u v ∙ h) (by_keys v w ∙ k);
      congr = λ u v w h. sym (by_keys u w) ∙ keyed_total.congr u v w (by_keys u v ∙ h) ∙ by_keys v w;
    }

-- whether a value is to stand before another
abbrev pub is_before : TagData → TagData → Bool
is_before v w = is_lt (item_cmp v w)

items_ranked : IsStrictWeakOrder is_before
items_ranked = ranks_by item_total (λ v. v)

pub values_ranked : IsStrictWeakOrder (λ (v w : TagValue). is_before (tag_data v) (tag_data w))
values_ranked = ranks_by item_total tag_data

before_later_at : (b : Bool) (u v w : TagData) → is_before u w ≡ b → is_before u v ≡ true → is_before w v ≡ false → is_before u w ≡ true
before_later_at true u v w b h k = b
before_later_at false u v w b h k = absurd (let e = items_ranked.chain u w v b k in cc)

-- what stands before a value stands before what doesn't
pub before_later : (u v w : TagData) → is_before u v ≡ true → is_before w v ≡ false → is_before u w ≡ true
before_later u v w h k = before_later_at _ u v w refl h k

-- ---- what stands apart doesn't match

-- whether a value is anything
abbrev pub is_any : TagData → Bool
is_any any = true
is_any v = false

apart_from_less : (o p : Ordering) → o ≡ ordering_reverse p → is_lt p ≡ true → is_eq o ≡ false
apart_from_less Less p e h = refl
apart_from_less Equal Less e h = absurd (cc)
apart_from_less Equal Equal e h = absurd (cc)
apart_from_less Equal Greater e h = absurd (cc)
apart_from_less Greater p e h = refl

lower_differs : (o : Ordering) → is_lt o ≡ true → is_eq o ≡ false
lower_differs Less h = refl
lower_differs Equal h = absurd (cc)
lower_differs Greater h = absurd (cc)

numbers_before : (n m : ℤ) → is_lt (int_cmp m n) ≡ true → int_eq n m ≡ false
numbers_before n m h = apart_from_less _ _ (int_cmp_total.antisymm n m) h

texts_before : (s t : List ℕ) → is_lt (slice_cmp nat_cmp t s) ≡ true → bytes_eq s t ≡ false
texts_before s t h = sym (is_eq-slice_cmp s t) ∙ apart_from_less _ _ (nat_list_cmp_total.antisymm s t) h

texts_after : (s t : List ℕ) → is_lt (slice_cmp nat_cmp s t) ≡ true → bytes_eq s t ≡ false
texts_after s t h = sym (is_eq-slice_cmp s t) ∙ lower_differs _ h

-- an item that stands before a value doesn't match it, unless it is anything
pub before_differs : (v w : TagData) → is_any w ≡ false → is_before w v ≡ true → value_matches v w ≡ false
before_differs any any a h = absurd (cc)
before_differs any (number m) a h = absurd (cc)
before_differs any (text t) a h = absurd (cc)
before_differs any (fields gs) a h = absurd (cc)
before_differs any (items ws) a h = absurd (cc)
before_differs (number n) any a h = absurd (cc)
before_differs (number n) (number m) a h = numbers_before n m h
before_differs (number n) (text t) a h = absurd (cc)
before_differs (number n) (fields gs) a h = absurd (cc)
before_differs (number n) (items ws) a h = absurd (cc)
before_differs (text s) any a h = absurd (cc)
before_differs (text s) (number m) a h = refl
before_differs (text s) (text t) a h = texts_before s t h
before_differs (text s) (fields gs) a h = absurd (cc)
before_differs (text s) (items ws) a h = absurd (cc)
before_differs (fields fs) any a h = absurd (cc)
before_differs (fields fs) (number m) a h = refl
before_differs (fields fs) (text t) a h = refl
before_differs (fields fs) (fields gs) a h = absurd (cc)
before_differs (fields fs) (items ws) a h = absurd (cc)
before_differs (items vs) any a h = absurd (cc)
before_differs (items vs) (number m) a h = refl
before_differs (items vs) (text t) a h = refl
before_differs (items vs) (fields gs) a h = absurd (cc)
before_differs (items vs) (items ws) a h = absurd (cc)

-- nor does one that a value stands before
pub after_differs : (v w : TagData) → is_any v ≡ false → is_before v w ≡ true → value_matches v w ≡ false
after_differs any any a h = absurd (cc)
after_differs any (number m) a h = absurd (cc)
after_differs any (text t) a h = absurd (cc)
after_differs any (fields gs) a h = absurd (cc)
after_differs any (items ws) a h = absurd (cc)
after_differs (number n) any a h = absurd (cc)
after_differs (number n) (number m) a h = lower_differs _ h
after_differs (number n) (text t) a h = refl
after_differs (number n) (fields gs) a h = refl
after_differs (number n) (items ws) a h = refl
after_differs (text s) any a h = absurd (cc)
after_differs (text s) (number m) a h = absurd (cc)
after_differs (text s) (text t) a h = texts_after s t h
after_differs (text s) (fields gs) a h = refl
after_differs (text s) (items ws) a h = refl
after_differs (fields fs) any a h = absurd (cc)
after_differs (fields fs) (number m) a h = absurd (cc)
after_differs (fields fs) (text t) a h = absurd (cc)
after_differs (fields fs) (fields gs) a h = absurd (cc)
after_differs (fields fs) (items ws) a h = absurd (cc)
after_differs (items vs) any a h = absurd (cc)
after_differs (items vs) (number m) a h = absurd (cc)
after_differs (items vs) (text t) a h = absurd (cc)
after_differs (items vs) (fields gs) a h = absurd (cc)
after_differs (items vs) (items ws) a h = absurd (cc)

above_at : (o p : Ordering) → p ≡ ordering_reverse o → is_eq o ≡ false → is_lt p ≡ false → is_lt o ≡ true
above_at Less p e h k = refl
above_at Equal p e h k = absurd (cc)
above_at Greater Less e h k = absurd (cc)
above_at Greater Equal e h k = absurd (cc)
above_at Greater Greater e h k = absurd (cc)

-- a number that is neither another nor above it is below it
pub number_above : (n m : ℤ) → int_eq n m ≡ false → is_before (number m) (number n) ≡ false → is_before (number n) (number m) ≡ true
number_above n m h k = above_at _ _ (int_cmp_total.antisymm m n) h k

-- and a text
pub text_above : (s t : List ℕ) → bytes_eq s t ≡ false → is_before (text t) (text s) ≡ false → is_before (text s) (text t) ≡ true
text_above s t h k = above_at _ _ (nat_list_cmp_total.antisymm t s) (is_eq-slice_cmp s t ∙ h) k

-- anything matches all
pub any_from_unmatched : (v w : TagData) → value_matches v w ≡ false → is_any v ≡ false
any_from_unmatched any w h = absurd (cc)
any_from_unmatched (number n) w h = refl
any_from_unmatched (text t) w h = refl
any_from_unmatched (fields fs) w h = refl
any_from_unmatched (items vs) w h = refl

pub matches_any : (v : TagData) → value_matches v any ≡ true
matches_any any = refl
matches_any (number n) = refl
matches_any (text t) = refl
matches_any (fields fs) = refl
matches_any (items vs) = refl

-- anything stands before all else
pub any_before : (v w : TagData) → is_any v ≡ false → is_before w v ≡ false → is_any w ≡ false
any_before (number n) any a h = absurd (cc)
any_before (text t) any a h = absurd (cc)
any_before (fields fs) any a h = absurd (cc)
any_before (items vs) any a h = absurd (cc)
any_before any w a h = absurd (cc)
any_before v (number n) a h = refl
any_before v (text t) a h = refl
any_before v (fields fs) a h = refl
any_before v (items vs) a h = refl

-- ---- a list that was put in order

-- no later value is to stand before an earlier one
abbrev AllInOrder : List TagValue → Type 0
AllInOrder xs = (i j : ℕ) (d : TagValue) → i ≤ j → j < length xs → is_before (tag_data (get_or xs j d)) (tag_data (get_or xs i d)) ≡ false

first_from : (v : TagData) (xs : List TagValue) → ((j : ℕ) (d : TagValue) → j < length xs → is_before (tag_data (get_or xs j d)) v ≡ false) → is_first v (items_data xs) ≡ true
first_from v [] h = refl
first_from v (x ∷ xs) h =
    let here : is_before (tag_data x) v ≡ false = h 0 x (omega arith) in
    rw here (first_from v xs (λ j d within. h (suc j) d (omega arith)))

in_order_from_all : (xs : List TagValue) → AllInOrder xs → is_in_order (items_data xs) ≡ true
in_order_from_all [] h = refl
in_order_from_all (x ∷ xs) h =
    let here : is_first (tag_data x) (items_data xs) ≡ true = first_from (tag_data x) xs (λ j d within. h 0 (suc j) d (omega arith) (omega arith)) in
    rw here (in_order_from_all xs (λ i j d up within. h (suc i) (suc j) d (omega arith) (omega arith)))

-- where no value is to stand before the one before it, the list is in order
pub in_order_from_sorted : (xs : List TagValue) → IsSortedBy (λ (v w : TagValue). is_before (tag_data v) (tag_data w)) xs → is_in_order (items_data xs) ≡ true
in_order_from_sorted xs up =
    in_order_from_all xs (sorted_far (λ (v w : TagValue). is_before (tag_data v) (tag_data w)) values_ranked xs up)
