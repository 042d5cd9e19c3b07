-- The walk over two lists of items that stand in order.
use Rattle.std.proofs.Common.{◌≡◌, ℕ, ℤ, zero, suc, ◌+◌, ◌<◌, Bool, true, false, not, ◌&&◌, ◌||◌, cond, List, [], ◌∷◌, Some, length, get_or, drop, refl, sym, ap, ◌∙◌, ◌≤◌, arith}
use Rattle.std.specs.Cmp.{first_so, second_so}
use Rattle.std.specs.Ordering.{is_lt, int_eq}
use Rattle.std.specs.List.{slice_get}
use Rattle.std.proofs.lemmas.Cmp.{tied_itself}
use Rattle.std.proofs.lemmas.List.{drop_more}
use Rattle.powerbox_match.specs.declared.value.TagValue.{TagValue}
use Rattle.powerbox_match.specs.Value.{TagData, any, number, text, fields, items, ItemsData, no_items, item, tag_data, items_data}
use Rattle.powerbox_match.specs.Matching.{value_matches, items_match, any_item}
use Rattle.powerbox_match.specs.Comparisons.{lists}
use Rattle.powerbox_match.specs.Sorted.{is_first, is_in_order, are_items_sorted}
use Rattle.powerbox_match.specs.Steps.{items_not_before, begins_with_any, begins_with_number}
use Rattle.powerbox_match.proofs.Order.{number_above, text_above, item_total, is_before, is_any, before_later, before_differs, after_differs, any_from_unmatched, matches_any, any_before}

from_not : (b : Bool) → not b ≡ true → b ≡ false
from_not true h = absurd (cc)
from_not false h = refl

-- whether none of the items is anything
abbrev pub are_definite : ItemsData → Bool
are_definite no_items = true
are_definite (item v vs) = not (is_any v) && are_definite vs

-- what is left of a list in order is in order
pub is_in_order-drop : (i : ℕ) (xs : List TagValue) → is_in_order (items_data xs) ≡ true → is_in_order (items_data (drop i xs)) ≡ true
is_in_order-drop zero xs h = h
is_in_order-drop (suc i) [] h = h
is_in_order-drop (suc i) (x ∷ xs) h = is_in_order-drop i xs (second_so _ _ h)

-- ---- anything comes first

definite_after : (v : TagData) (ws : ItemsData) → is_any v ≡ false → is_first v ws ≡ true → are_definite ws ≡ true
definite_after v no_items a h = refl
definite_after v (item w ws) a h =
    let here : is_any w ≡ false = any_before v w a (from_not _ (first_so _ _ h)) in
    rw here (definite_after v ws a (second_so _ _ h))

definite_from : (v : TagData) (vs : ItemsData) → is_any v ≡ false → is_first v vs ≡ true → are_definite (item v vs) ≡ true
definite_from v vs a h = rw a (definite_after v vs a h)

-- a list in order that doesn't begin with anything has it nowhere
pub are_definite-in_order : (vs : ItemsData) → is_in_order vs ≡ true → begins_with_any vs ≡ false → are_definite vs ≡ true
are_definite-in_order no_items h k = refl
are_definite-in_order (item any vs) h k = absurd (cc)
are_definite-in_order (item (number n) vs) h k = definite_from (number n) vs refl (first_so _ _ h)
are_definite-in_order (item (text t) vs) h k = definite_from (text t) vs refl (first_so _ _ h)
are_definite-in_order (item (fields fs) vs) h k = definite_from (fields fs) vs refl (first_so _ _ h)
are_definite-in_order (item (items ws) vs) h k = definite_from (items ws) vs refl (first_so _ _ h)

-- and each item matches one that begins with it
pub all_match_any : (vs ws : ItemsData) → begins_with_any ws ≡ true → items_match vs ws ≡ true
all_match_any no_items ws h = refl
all_match_any (item v vs) no_items h = absurd (cc)
all_match_any (item v vs) (item any ws) h = rw (matches_any v) (all_match_any vs (item any ws) h)
all_match_any (item v vs) (item (number n) ws) h = absurd (cc)
all_match_any (item v vs) (item (text t) ws) h = absurd (cc)
all_match_any (item v vs) (item (fields fs) ws) h = absurd (cc)
all_match_any (item v vs) (item (items us) ws) h = absurd (cc)

-- ---- the items from a value on

kept_at : (P : ItemsData → Bool) (b : Bool) (v : TagData) (w : TagValue) (ws : List TagValue) → P (items_data (items_not_before v ws)) ≡ true → P (items_data (w ∷ ws)) ≡ true → P (items_data (cond b (items_not_before v ws) (w ∷ ws))) ≡ true
kept_at P true v w ws later here = later
kept_at P false v w ws later here = here

pub is_in_order-not_before : (v : TagData) (ws : List TagValue) → is_in_order (items_data ws) ≡ true → is_in_order (items_data (items_not_before v ws)) ≡ true
is_in_order-not_before v [] h = h
is_in_order-not_before v (w ∷ ws) h =
    kept_at is_in_order (is_before (tag_data w) v) v w ws (is_in_order-not_before v ws (second_so _ _ h)) h

pub are_items_sorted-not_before : (v : TagData) (ws : List TagValue) → are_items_sorted (items_data ws) ≡ true → are_items_sorted (items_data (items_not_before v ws)) ≡ true
are_items_sorted-not_before v [] h = h
are_items_sorted-not_before v (w ∷ ws) h =
    kept_at are_items_sorted (is_before (tag_data w) v) v w ws (are_items_sorted-not_before v ws (second_so _ _ h)) h

pub are_definite-not_before : (v : TagData) (ws : List TagValue) → are_definite (items_data ws) ≡ true → are_definite (items_data (items_not_before v ws)) ≡ true
are_definite-not_before v [] h = h
are_definite-not_before v (w ∷ ws) h =
    kept_at are_definite (is_before (tag_data w) v) v w ws (are_definite-not_before v ws (second_so _ _ h)) h

any_item_at : (b : Bool) (u v : TagData) (w : TagValue) (ws : List TagValue) → is_before (tag_data w) v ≡ b → is_before u v ≡ false → is_any (tag_data w) ≡ false
    → any_item (λ x. value_matches u x) (items_data (items_not_before v ws)) ≡ any_item (λ x. value_matches u x) (items_data ws)
    → any_item (λ x. value_matches u x) (items_data (cond b (items_not_before v ws) (w ∷ ws))) ≡ any_item (λ x. value_matches u x) (items_data (w ∷ ws))
any_item_at false u v w ws b h a later = refl
any_item_at true u v w ws b h a later =
    let other : value_matches u (tag_data w) ≡ false = before_differs u (tag_data w) a (before_later (tag_data w) v u b h) in
    rw other later

-- a value matches some item from another on where it matches some item, unless it stands before that other
any_item-not_before : (u v : TagData) (ws : List TagValue) → is_before u v ≡ false → are_definite (items_data ws) ≡ true
    → any_item (λ x. value_matches u x) (items_data (items_not_before v ws)) ≡ any_item (λ x. value_matches u x) (items_data ws)
any_item-not_before u v [] h a = refl
any_item-not_before u v (w ∷ ws) h a =
    any_item_at _ u v w ws refl h (from_not _ (first_so _ _ a)) (any_item-not_before u v ws h (second_so _ _ a))

items_match-not_before : (v : TagData) (us : ItemsData) (ws : List TagValue) → is_first v us ≡ true → are_definite (items_data ws) ≡ true
    → items_match us (items_data (items_not_before v ws)) ≡ items_match us (items_data ws)
items_match-not_before v no_items ws h a = refl
items_match-not_before v (item u us) ws h a =
    let here = any_item-not_before u v ws (from_not _ (first_so _ _ h)) a in
    let later = items_match-not_before v us ws (second_so _ _ h) a in
    rw (here, later)

not_before_itself : (v : TagData) → is_before v v ≡ false
not_before_itself v = ap is_lt (tied_itself item_total v)

-- ---- one step of the walk

-- an item is met, or not, by the items from it on, and then come the items after it
pub items_match_step : (x : TagValue) (xs gs : List TagValue) → is_in_order (items_data (x ∷ xs)) ≡ true → are_definite (items_data gs) ≡ true
    → items_match (items_data (x ∷ xs)) (items_data gs) ≡ (any_item (λ w. value_matches (tag_data x) w) (items_data (items_not_before (tag_data x) gs)) && items_match (items_data xs) (items_data (items_not_before (tag_data x) gs)))
items_match_step x xs gs h a =
    let here = any_item-not_before (tag_data x) (tag_data x) gs (not_before_itself (tag_data x)) a in
    let later = items_match-not_before (tag_data x) (items_data xs) gs (first_so _ _ h) a in
    rw (here, later)

-- the same in a walk over the query's items
pub items_match_more : (ws : List TagValue) (i : ℕ) (x : TagValue) (gs : List TagValue) (b : Bool) → i < length ws → x ≡ get_or ws i x → is_in_order (items_data ws) ≡ true → are_definite (items_data gs) ≡ true
    → any_item (λ w. value_matches (tag_data x) w) (items_data (items_not_before (tag_data x) gs)) ≡ b
    → items_match (items_data (drop i ws)) (items_data gs) ≡ (b && items_match (items_data (drop (i + 1) ws)) (items_data (items_not_before (tag_data x) gs)))
items_match_more ws i x gs b within is up a met =
    let here : drop i ws ≡ x ∷ drop (i + 1) ws = drop_more ws i x within ∙ ap (λ (y : TagValue). y ∷ drop (i + 1) ws) (sym is) in
    let left : is_in_order (items_data (x ∷ drop (i + 1) ws)) ≡ true = ap (λ (ys : List TagValue). is_in_order (items_data ys)) (sym here) ∙ is_in_order-drop i ws up in
    ap (λ (ys : List TagValue). items_match (items_data ys) (items_data gs)) here ∙ items_match_step x (drop (i + 1) ws) gs left a
    ∙ ap (λ (c : Bool). c && items_match (items_data (drop (i + 1) ws)) (items_data (items_not_before (tag_data x) gs))) met

-- ---- where a value's search ends

none_after : (v w : TagData) (ws : ItemsData) → is_any v ≡ false → is_before v w ≡ true → is_first w ws ≡ true → any_item (λ x. value_matches v x) ws ≡ false
none_after v w no_items a h k = refl
none_after v w (item u us) a h k =
    let other : value_matches v u ≡ false = after_differs v u a (before_later v w u h (from_not _ (first_so _ _ k))) in
    rw other (none_after v w us a h (second_so _ _ k))

-- a value matches no item from one on that it stands before and doesn't match
pub none_from : (v : TagData) (ws : List TagValue) (i : ℕ) (x : TagValue) → i < length ws → x ≡ get_or ws i x → is_in_order (items_data ws) ≡ true → value_matches v (tag_data x) ≡ false → is_before v (tag_data x) ≡ true
    → any_item (λ w. value_matches v w) (items_data (drop i ws)) ≡ false
none_from v ws i x within is up other before =
    let here : drop i ws ≡ x ∷ drop (i + 1) ws = drop_more ws i x within ∙ ap (λ (y : TagValue). y ∷ drop (i + 1) ws) (sym is) in
    let left : is_in_order (items_data (x ∷ drop (i + 1) ws)) ≡ true = ap (λ (ys : List TagValue). is_in_order (items_data ys)) (sym here) ∙ is_in_order-drop i ws up in
    let rest : any_item (λ w. value_matches v w) (items_data (drop (i + 1) ws)) ≡ false = none_after v (tag_data x) (items_data (drop (i + 1) ws)) (any_from_unmatched v (tag_data x) other) before (first_so _ _ left) in
    rw (here, other, rest) refl

-- where the first item isn't matched, it is the later ones that matter
pub unmet_first : (v : TagData) (ws : List TagValue) (i : ℕ) (x : TagValue) → i < length ws → x ≡ get_or ws i x → value_matches v (tag_data x) ≡ false
    → any_item (λ w. value_matches v w) (items_data (drop i ws)) ≡ any_item (λ w. value_matches v w) (items_data (drop (i + 1) ws))
unmet_first v ws i x within is other =
    let here : drop i ws ≡ x ∷ drop (i + 1) ws = drop_more ws i x within ∙ ap (λ (y : TagValue). y ∷ drop (i + 1) ws) (sym is) in
    rw (here, other) refl

-- ---- the first item from a value on

first_at : (b : Bool) (v : TagData) (w h : TagValue) (ws : List TagValue) → is_before (tag_data w) v ≡ b → (Some h ≡ slice_get (items_not_before v ws) 0 → is_before (tag_data h) v ≡ false)
    → Some h ≡ slice_get (cond b (items_not_before v ws) (w ∷ ws)) 0 → is_before (tag_data h) v ≡ false
first_at true v w h ws b later e = later e
first_at false v w h ws b later e = let same : h ≡ w = cc in rw same b

-- the first item from a value on doesn't stand before it
first_not_before : (v : TagData) (ws : List TagValue) (h : TagValue) → Some h ≡ slice_get (items_not_before v ws) 0 → is_before (tag_data h) v ≡ false
first_not_before v [] h e = absurd (cc)
first_not_before v (w ∷ ws) h e = first_at _ v w h ws refl (first_not_before v ws h) e

again_at : (b : Bool) (v : TagData) (w : TagValue) (ws : List TagValue) → is_before (tag_data w) v ≡ b → items_not_before v (items_not_before v ws) ≡ items_not_before v ws
    → items_not_before v (cond b (items_not_before v ws) (w ∷ ws)) ≡ cond b (items_not_before v ws) (w ∷ ws)
again_at true v w ws b later = later
again_at false v w ws b later = rw b

-- the items from a value on begin there
pub items_not_before_again : (v : TagData) (ws : List TagValue) → items_not_before v (items_not_before v ws) ≡ items_not_before v ws
items_not_before_again v [] = refl
items_not_before_again v (w ∷ ws) = again_at _ v w ws refl (items_not_before_again v ws)

number_or_none : (b : Bool) (n m : ℤ) (ws : ItemsData) → int_eq n m ≡ b → is_before (number m) (number n) ≡ false → is_first (number m) ws ≡ true → b ≡ (int_eq n m || any_item (λ w. value_matches (number n) w) ws)
number_or_none true n m ws e f up = rw e refl
number_or_none false n m ws e f up =
    let before : is_before (number n) (number m) ≡ true = number_above n m e f in
    rw (e, none_after (number n) (number m) ws refl before up) refl

number_first_at : (n : ℤ) (d : TagData) (ws : ItemsData) → is_before d (number n) ≡ false → is_first d ws ≡ true → begins_with_number n (item d ws) ≡ any_item (λ w. value_matches (number n) w) (item d ws)
number_first_at n any ws f up = absurd (cc)
number_first_at n (number m) ws f up = number_or_none _ n m ws refl f up
number_first_at n (text t) ws f up = sym (none_after (number n) (text t) ws refl refl up)
number_first_at n (fields fs) ws f up = sym (none_after (number n) (fields fs) ws refl refl up)
number_first_at n (items vs) ws f up = sym (none_after (number n) (items vs) ws refl refl up)

-- a number that is among items from it on is the first of them
pub begins_with_number-any_item : (n : ℤ) (ws : List TagValue) → items_not_before (number n) ws ≡ ws → is_in_order (items_data ws) ≡ true → begins_with_number n (items_data ws) ≡ any_item (λ w. value_matches (number n) w) (items_data ws)
begins_with_number-any_item n [] from up = refl
begins_with_number-any_item n (w ∷ ws) from up =
    let first : is_before (tag_data w) (number n) ≡ false = first_not_before (number n) (w ∷ ws) w (rw from) in
    number_first_at n (tag_data w) (items_data ws) first (first_so _ _ up)

-- ---- what is compared with several items

-- an atom that doesn't match an item, which isn't to stand before it, is to stand before that
atom_before : (v w : TagData) → lists v ≡ 0 → is_before w v ≡ false → value_matches v w ≡ false → is_before v w ≡ true
atom_before any w a f e = absurd (cc)
atom_before (number n) any a f e = absurd (cc)
atom_before (number n) (number m) a f e = number_above n m e f
atom_before (number n) (text t) a f e = refl
atom_before (number n) (fields gs) a f e = refl
atom_before (number n) (items ws) a f e = refl
atom_before (text s) any a f e = absurd (cc)
atom_before (text s) (number m) a f e = absurd (cc)
atom_before (text s) (text t) a f e = text_above s t e f
atom_before (text s) (fields gs) a f e = refl
atom_before (text s) (items ws) a f e = refl
atom_before (fields fs) w a f e = absurd (omega arith)
atom_before (items vs) w a f e = absurd (omega arith)

-- only a list goes on to a second item
pub goes_on : (v : TagData) (ws : List TagValue) (i : ℕ) (x : TagValue) → i < length ws → x ≡ get_or ws i x → items_not_before v ws ≡ ws → (lists v ≡ 0 → i ≡ 0) → value_matches v (tag_data x) ≡ false → is_before v (tag_data x) ≡ false → 1 ≤ lists v
goes_on v ws i x within is from start other after = at (lists v) refl
  where
    first : (us : List TagValue) → 0 < length us → x ≡ get_or us 0 x → Some x ≡ slice_get us 0
    first [] h e = absurd (omega arith)
    first (u ∷ us) h e = ap Some e

    at : (n : ℕ) → lists v ≡ n → 1 ≤ n
    at (suc n) e = omega arith
    at zero e =
        let here : i ≡ 0 = start e in
        let top : Some x ≡ slice_get ws 0 = first ws (omega arith) (is ∙ ap (λ j. get_or ws j x) here) in
        let met : is_before (tag_data x) v ≡ false = first_not_before v ws x (rw from top) in
        let before : is_before v (tag_data x) ≡ true = atom_before v (tag_data x) e met other in
        absurd (cc)
