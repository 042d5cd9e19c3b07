-- How many values and lists there are in parts of a list, and what a step of a walk takes.
use Rattle.std.proofs.Common.{◌≡◌, ℕ, zero, suc, ◌+◌, ◌-◌, ◌*◌, ◌<◌, ◌≤◌, Bool, true, false, cond, List, [], ◌∷◌, Option, Some, length, get_or, drop, refl, sym, ap, ◌∙◌, arith}
use Rattle.std.specs.Cmp.Lexicographic.{slice_cmp}
use Rattle.std.specs.Ordering.{is_lt, nat_cmp}
use Rattle.std.specs.Str.{bytes_eq}
use Rattle.std.proofs.lemmas.List.{drop_more}
use Rattle.powerbox_match.specs.declared.value.TagValue.{TagValue}
use Rattle.powerbox_match.specs.Value.{TagData, any, number, text, fields, items, FieldsData, no_fields, field, ItemsData, item, tag_data, fields_data, items_data}
use Rattle.powerbox_match.specs.Matching.{get_field}
use Rattle.powerbox_match.specs.Descriptor.{DescriptorData}
use Rattle.powerbox_match.specs.Comparisons.{weight, lists, fields_weight, fields_lists, items_weight, items_lists, tags_weight, tags_lists, weight_of, lists_of, most_comparisons}
use Rattle.powerbox_match.specs.Sorted.{item_cmp}
use Rattle.powerbox_match.specs.Steps.{most_by, most_for_values, most_for_fields, most_for_items, most_among_items, fields_not_below, items_not_before}
use Rattle.powerbox_match.proofs.Tidy.{Entry}
use Rattle.powerbox_match.proofs.Products.{most_by-wanted, most_by-given, most_by-part, most_by-lists, most_by-list, most_by-two}

-- a value is one at least
pub weight-some : (v : TagData) → 1 ≤ weight v
weight-some any = omega arith
weight-some (number n) = omega arith
weight-some (text t) = omega arith
weight-some (fields fs) = omega arith
weight-some (items vs) = omega arith

-- as many values as there are entries at least
length_within_items : (vs : List TagValue) → length vs ≤ items_weight (items_data vs)
length_within_items [] = omega arith
length_within_items (v ∷ vs) =
    let here = weight-some (tag_data v) in
    let later = length_within_items vs in
    omega arith

length_within_fields : (fs : List Entry) → length fs ≤ fields_weight (fields_data fs)
length_within_fields [] = omega arith
length_within_fields (f ∷ fs) =
    let here = weight-some (tag_data f.1) in
    let later = length_within_fields fs in
    omega arith

-- ---- two values

one_at : (l : ℕ) (w : TagData) (v k : ℕ) → 1 ≤ (1 - l) + most_by v l (weight w) k
one_at zero w v k = omega arith
one_at (suc l) w v k =
    let one = most_by-list v (suc l) (weight w) k (omega arith) (weight-some w) in
    omega arith

-- any two values may take one comparison
pub one_within : (v w : TagData) → 1 ≤ most_for_values v w
one_within v w = one_at (lists v) w (weight v) (lists w)

-- two lists of fields, or of items, take one more than their walk
pub fields_within : (fs gs : List Entry) → suc (2 * length fs + length gs + most_for_fields (fields_data fs) (fields_data gs)) ≤ most_for_values (fields (fields_data fs)) (fields (fields_data gs))
fields_within fs gs =
    let all = most_by-lists (length fs) (length gs) (fields_weight (fields_data fs)) (fields_lists (fields_data fs)) (fields_weight (fields_data gs)) (fields_lists (fields_data gs)) (length_within_fields fs) (length_within_fields gs) in
    omega arith

pub items_within : (vs ws : List TagValue) → suc (2 * length vs + length ws + most_for_items (items_data vs) (items_data ws)) ≤ most_for_values (items (items_data vs)) (items (items_data ws))
items_within vs ws =
    let all = most_by-lists (length vs) (length ws) (items_weight (items_data vs)) (items_lists (items_data vs)) (items_weight (items_data ws)) (items_lists (items_data ws)) (length_within_items vs) (length_within_items ws) in
    omega arith

-- ---- parts of a list

-- no more in the fields from a name on
pub fields-part : (F : FieldsData → ℕ) → ((name : List ℕ) (v : TagData) (fs : FieldsData) → F fs ≤ F (field name v fs)) → (k : List ℕ) (gs : List Entry) → F (fields_data (fields_not_below k gs)) ≤ F (fields_data gs)
fields-part F more k [] = omega arith
fields-part F more k (g ∷ gs) =
    let step = more g.0 (tag_data g.1) (fields_data gs) in
    let later = fields-part F more k gs in
    kept_at (is_lt (slice_cmp nat_cmp g.0 k)) (omega arith)
  where
    kept_at : (b : Bool) → F (fields_data (fields_not_below k gs)) ≤ F (fields_data (g ∷ gs)) → F (fields_data (cond b (fields_not_below k gs) (g ∷ gs))) ≤ F (fields_data (g ∷ gs))
    kept_at true h = h
    kept_at false h = omega arith

-- nor in the items from a value on
pub items-part : (F : ItemsData → ℕ) → ((v : TagData) (vs : ItemsData) → F vs ≤ F (item v vs)) → (u : TagData) (ws : List TagValue) → F (items_data (items_not_before u ws)) ≤ F (items_data ws)
items-part F more u [] = omega arith
items-part F more u (w ∷ ws) =
    let step = more (tag_data w) (items_data ws) in
    let later = items-part F more u ws in
    kept_at (is_lt (item_cmp (tag_data w) u)) (omega arith)
  where
    kept_at : (b : Bool) → F (items_data (items_not_before u ws)) ≤ F (items_data (w ∷ ws)) → F (items_data (cond b (items_not_before u ws) (w ∷ ws))) ≤ F (items_data (w ∷ ws))
    kept_at true h = h
    kept_at false h = omega arith

-- nor in the value of a field
pub field-part : (F : FieldsData → ℕ) (f : TagData → ℕ) → ((name : List ℕ) (v : TagData) (fs : FieldsData) → F (field name v fs) ≡ f v + F fs) → (k : List ℕ) (fs : FieldsData) (v : TagData) → Some v ≡ get_field k fs → f v ≤ F fs
field-part F f step k no_fields v e = absurd (cc)
field-part F f step k (field name w fs) v e =
    let sum = step name w fs in
    found_at (bytes_eq k name) (get_field k fs) e (λ h. let later = field-part F f step k fs v h in omega arith)
  where
    found_at : (b : Bool) (later : Option TagData) → Some v ≡ cond b (Some w) later → (Some v ≡ later → f v ≤ F (field name w fs)) → f v ≤ F (field name w fs)
    found_at true later h there = let is : v ≡ w = cc in let sum = step name w fs in rw is (omega arith)
    found_at false later h there = there h

-- the fields that are left of those that were left
pub fields_light : (gs rest left : List Entry) (k : List ℕ) → left ≡ fields_not_below k rest → fields_weight (fields_data rest) ≤ fields_weight (fields_data gs) → fields_lists (fields_data rest) ≤ fields_lists (fields_data gs)
    → (fields_weight (fields_data left) ≤ fields_weight (fields_data gs)) × (fields_lists (fields_data left) ≤ fields_lists (fields_data gs))
fields_light gs rest left k is light few =
    let weights = fields-part fields_weight (λ name v fs. omega arith) k rest in
    let counts = fields-part fields_lists (λ name v fs. omega arith) k rest in
    rw is (omega arith, omega arith)

-- the items that are left of those that were left
pub items_light : (gs rest left : List TagValue) (v : TagData) → left ≡ items_not_before v rest → items_weight (items_data rest) ≤ items_weight (items_data gs) → items_lists (items_data rest) ≤ items_lists (items_data gs)
    → (items_weight (items_data left) ≤ items_weight (items_data gs)) × (items_lists (items_data left) ≤ items_lists (items_data gs))
items_light gs rest left v is light few =
    let weights = items-part items_weight (λ u vs. omega arith) v rest in
    let counts = items-part items_lists (λ u vs. omega arith) v rest in
    rw is (omega arith, omega arith)

-- a field's value among the fields that are left
pub other_within : (k : List ℕ) (left : List Entry) (other : TagValue) → Some (tag_data other) ≡ get_field k (fields_data left)
    → (weight (tag_data other) ≤ fields_weight (fields_data left)) × (lists (tag_data other) ≤ fields_lists (fields_data left))
other_within k left other is =
    (field-part fields_weight weight (λ name v fs. refl) k (fields_data left) (tag_data other) is, field-part fields_lists lists (λ name v fs. refl) k (fields_data left) (tag_data other) is)

-- ---- one step of a walk

drop_is : {X : Type 0} (xs : List X) (i : ℕ) (x : X) → i < length xs → x ≡ get_or xs i x → drop i xs ≡ x ∷ drop (i + 1) xs
drop_is xs i x within is = drop_more xs i x within ∙ ap (λ y. y ∷ drop (i + 1) xs) (sym is)

-- a field that is looked for, and one value that it is compared with
pub field_spent : (ws : List Entry) (gs : FieldsData) (i : ℕ) (x : Entry) (other : TagData) → i < length ws → x ≡ get_or ws i x → weight other ≤ fields_weight gs → lists other ≤ fields_lists gs
    → suc (most_for_values (tag_data x.1) other) + 2 * length (drop (i + 1) ws) + most_for_fields (fields_data (drop (i + 1) ws)) gs ≤ 2 * length (drop i ws) + most_for_fields (fields_data (drop i ws)) gs
field_spent ws gs i x other within is light few =
    let here : drop i ws ≡ x ∷ drop (i + 1) ws = drop_is ws i x within is in
    let part = most_by-part (weight (tag_data x.1)) (lists (tag_data x.1)) (weight other) (lists other) (fields_weight gs) (fields_lists gs) light few in
    let sum = most_by-wanted (weight (tag_data x.1)) (fields_weight (fields_data (drop (i + 1) ws))) (lists (tag_data x.1)) (fields_lists (fields_data (drop (i + 1) ws))) (fields_weight gs) (fields_lists gs) in
    rw here (omega arith)

-- a field that is looked for and isn't there
pub field_passed : (ws : List Entry) (gs : FieldsData) (i : ℕ) (x : Entry) → i < length ws → x ≡ get_or ws i x
    → 1 + 2 * length (drop (i + 1) ws) + most_for_fields (fields_data (drop (i + 1) ws)) gs ≤ 2 * length (drop i ws) + most_for_fields (fields_data (drop i ws)) gs
field_passed ws gs i x within is =
    let here : drop i ws ≡ x ∷ drop (i + 1) ws = drop_is ws i x within is in
    let sum = most_by-wanted (weight (tag_data x.1)) (fields_weight (fields_data (drop (i + 1) ws))) (lists (tag_data x.1)) (fields_lists (fields_data (drop (i + 1) ws))) (fields_weight gs) (fields_lists gs) in
    rw here (omega arith)

-- an item that is looked for, and what it is compared with
pub item_spent : (ws : List TagValue) (gs left : ItemsData) (i : ℕ) (x : TagValue) → i < length ws → x ≡ get_or ws i x → items_weight left ≤ items_weight gs → items_lists left ≤ items_lists gs
    → suc (most_among_items (tag_data x) left) + 2 * length (drop (i + 1) ws) + most_for_items (items_data (drop (i + 1) ws)) gs ≤ 2 * length (drop i ws) + most_for_items (items_data (drop i ws)) gs
item_spent ws gs left i x within is light few =
    let here : drop i ws ≡ x ∷ drop (i + 1) ws = drop_is ws i x within is in
    let part = most_by-part (weight (tag_data x)) (lists (tag_data x)) (items_weight left) (items_lists left) (items_weight gs) (items_lists gs) light few in
    let sum = most_by-wanted (weight (tag_data x)) (items_weight (items_data (drop (i + 1) ws))) (lists (tag_data x)) (items_lists (items_data (drop (i + 1) ws))) (items_weight gs) (items_lists gs) in
    rw here (omega arith)

-- one item that a value is compared with
pub among_more : (v : TagData) (ws : List TagValue) (i : ℕ) (x : TagValue) → i < length ws → x ≡ get_or ws i x
    → most_for_values v (tag_data x) + most_by (weight v) (lists v) (items_weight (items_data (drop (i + 1) ws))) (items_lists (items_data (drop (i + 1) ws))) ≡ most_among_items v (items_data (drop i ws))
among_more v ws i x within is =
    let here : drop i ws ≡ x ∷ drop (i + 1) ws = drop_is ws i x within is in
    let sum = most_by-given (weight v) (lists v) (weight (tag_data x)) (items_weight (items_data (drop (i + 1) ws))) (lists (tag_data x)) (items_lists (items_data (drop (i + 1) ws))) in
    rw here (omega arith)

-- ---- tags and descriptors

-- two values and their tags
tag_at : (l w v k : ℕ) → suc ((1 - l) + most_by w l v k) ≤ most_by (suc w) (suc l) (suc v) (suc k)
tag_at l w v k = let two = most_by-two w l v k in omega arith

-- values with as many values and lists in them take as many
pub most_for_as : (a b v w : TagData) → weight a ≡ weight v → lists a ≡ lists v → weight b ≡ weight w → lists b ≡ lists w → most_for_values a b ≡ most_for_values v w
most_for_as a b v w e f g h = rw (e, f, g, h) refl

-- one pair of tags
pub tags_more : (v : TagData) (gs : List (ℕ × TagData)) (i : ℕ) (x : ℕ × TagData) → i < length gs → x ≡ get_or gs i x
    → suc (most_for_values v x.1) + most_by (suc (weight v)) (suc (lists v)) (tags_weight (drop (i + 1) gs)) (tags_lists (drop (i + 1) gs)) ≤ most_by (suc (weight v)) (suc (lists v)) (tags_weight (drop i gs)) (tags_lists (drop i gs))
tags_more v gs i x within is =
    let here : drop i gs ≡ x ∷ drop (i + 1) gs = drop_is gs i x within is in
    let pair = tag_at (lists v) (weight v) (weight x.1) (lists x.1) in
    let sum = most_by-given (suc (weight v)) (suc (lists v)) (suc (weight x.1)) (tags_weight (drop (i + 1) gs)) (suc (lists x.1)) (tags_lists (drop (i + 1) gs)) in
    rw here (omega arith)

-- one tag of a query's descriptor
pub descriptor_more : (ws : List (ℕ × TagData)) (w l : ℕ) (i : ℕ) (x : ℕ × TagData) → i < length ws → x ≡ get_or ws i x
    → most_by (suc (weight x.1)) (suc (lists x.1)) w l + most_by (tags_weight (drop (i + 1) ws)) (tags_lists (drop (i + 1) ws)) w l ≡ most_by (tags_weight (drop i ws)) (tags_lists (drop i ws)) w l
descriptor_more ws w l i x within is =
    let here : drop i ws ≡ x ∷ drop (i + 1) ws = drop_is ws i x within is in
    let sum = most_by-wanted (suc (weight x.1)) (tags_weight (drop (i + 1) ws)) (suc (lists x.1)) (tags_lists (drop (i + 1) ws)) w l in
    rw here (omega arith)

-- one offer
pub offer_more : (w l : ℕ) (gs : List DescriptorData) (i : ℕ) (x : DescriptorData) → i < length gs → x ≡ get_or gs i x
    → suc (most_by w l (tags_weight x.tags) (tags_lists x.tags)) + most_by (suc w) (suc l) (weight_of (drop (i + 1) gs)) (lists_of (drop (i + 1) gs)) ≤ most_by (suc w) (suc l) (weight_of (drop i gs)) (lists_of (drop i gs))
offer_more w l gs i x within is =
    let here : drop i gs ≡ x ∷ drop (i + 1) gs = drop_is gs i x within is in
    let pair = most_by-two w l (tags_weight x.tags) (tags_lists x.tags) in
    let sum = most_by-given (suc w) (suc l) (suc (tags_weight x.tags)) (weight_of (drop (i + 1) gs)) (suc (tags_lists x.tags)) (lists_of (drop (i + 1) gs)) in
    rw here (omega arith)

-- one descriptor of a query
pub query_more : (ws gs : List DescriptorData) (i : ℕ) (x : DescriptorData) → i < length ws → x ≡ get_or ws i x
    → most_by (suc (tags_weight x.tags)) (suc (tags_lists x.tags)) (weight_of gs) (lists_of gs) + most_comparisons (drop (i + 1) ws) gs ≡ most_comparisons (drop i ws) gs
query_more ws gs i x within is =
    let here : drop i ws ≡ x ∷ drop (i + 1) ws = drop_is ws i x within is in
    let sum = most_by-wanted (suc (tags_weight x.tags)) (weight_of (drop (i + 1) ws)) (suc (tags_lists x.tags)) (lists_of (drop (i + 1) ws)) (weight_of gs) (lists_of gs) in
    rw here (omega arith)
