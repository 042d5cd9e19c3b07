-- The limits of values, one entry further at a time.
use Rattle.std.proofs.Common.{◌≡◌, ℕ, suc, ◌+◌, ◌-◌, ◌<◌, Bool, true, false, ◌&&◌, max, leb, List, [], ◌∷◌, length, get_or, drop, refl, sym, ap, ◌∙◌, arith}
use Rattle.std.specs.Cmp.{first_so}
use Rattle.std.specs.Cmp.Lexicographic.{slice_cmp}
use Rattle.std.specs.Ordering.{is_lt}
use Rattle.std.proofs.Common.{nat_cmp}
use Rattle.std.proofs.lemmas.Bool.Decides.{nat_tests}
use Rattle.std.proofs.lemmas.List.{drop_more}
use Rattle.powerbox_match.specs.declared.value.TagValue.{TagValue}
use Rattle.powerbox_match.specs.Value.{FieldsData, ItemsData, fields, items, field_count, item_count, nesting, fields_nesting, items_nesting, is_tidy, are_fields_tidy, are_items_tidy, is_ascending, is_below, tag_data, fields_data, items_data}
use Rattle.powerbox_match.specs.Steps.{is_below_next}
use Rattle.powerbox_match.proofs.Tidy.{Entry}
use Rattle.powerbox_match.proofs.Merge.{is_below-trans}
use Rattle.powerbox_match.proofs.Steps.{and_more}

-- ---- how deep, and how long

max_within : (a b most : ℕ) → leb (max a b) most ≡ (leb a most && leb b most)
max_within a b most = grind (arith, nat_tests)

and_four : (p q t u : Bool) → ((p && q) && (t && u)) ≡ ((p && t) && (q && u))
and_four false q t u = refl
and_four true true t u = refl
and_four true false true u = refl
and_four true false false u = refl

both_within : (a b most : ℕ) (t u : Bool) → (leb (max a b) most && (t && u)) ≡ ((leb a most && t) && (leb b most && u))
both_within a b most t u =
    ap (λ c. c && (t && u)) (max_within a b most) ∙ and_four (leb a most) (leb b most) t u

-- whether a value, or each of a list, is within the limits
abbrev pub value_within : ℕ → TagValue → Bool
value_within most v = leb (nesting (tag_data v)) most && is_tidy (tag_data v)

abbrev pub items_within : ℕ → List TagValue → Bool
items_within most vs = leb (items_nesting (items_data vs)) most && are_items_tidy (items_data vs)

abbrev pub fields_within : ℕ → List Entry → Bool
fields_within most fs = leb (fields_nesting (fields_data fs)) most && are_fields_tidy (fields_data fs)

-- one item further
pub items_within_more : (most : ℕ) (vs : List TagValue) (i : ℕ) (v : TagValue) (b : Bool) → i < length vs → v ≡ get_or vs i v → value_within most v ≡ b → items_within most (drop i vs) ≡ (b && items_within most (drop (i + 1) vs))
items_within_more most =
    and_more (items_within most) (value_within most) (λ v vs. both_within (nesting (tag_data v)) (items_nesting (items_data vs)) most (is_tidy (tag_data v)) (are_items_tidy (items_data vs)))

-- one field further
pub fields_within_more : (most : ℕ) (fs : List Entry) (i : ℕ) (f : Entry) (b : Bool) → i < length fs → f ≡ get_or fs i f → value_within most f.1 ≡ b → fields_within most (drop i fs) ≡ (b && fields_within most (drop (i + 1) fs))
fields_within_more most =
    and_more (fields_within most) (λ f. value_within most f.1) (λ f fs. both_within (nesting (tag_data f.1)) (fields_nesting (fields_data fs)) most (is_tidy (tag_data f.1)) (are_fields_tidy (fields_data fs)))

deeper : (n most : ℕ) → (most ≡ 0 → ⊥) → leb (suc n) most ≡ leb n (most - 1)
deeper n most some = grind (arith, nat_tests)

aside : (a few tidy : Bool) → (a && (few && tidy)) ≡ (few && (a && tidy))
aside true few tidy = refl
aside false true tidy = refl
aside false false tidy = refl

-- whether a list is within the limits, by how many entries it has and by the entries
pub fields_in : (most : ℕ) (v : TagValue) (fs : FieldsData) → tag_data v ≡ fields fs → (most ≡ 0 → ⊥)
    → value_within most v ≡ ((leb (field_count fs) 1000 && is_ascending fs) && (leb (fields_nesting fs) (most - 1) && are_fields_tidy fs))
fields_in most v fs is some =
    rw (is, deeper (fields_nesting fs) most some) (aside (leb (fields_nesting fs) (most - 1)) (leb (field_count fs) 1000 && is_ascending fs) (are_fields_tidy fs))

pub items_in : (most : ℕ) (v : TagValue) (vs : ItemsData) → tag_data v ≡ items vs → (most ≡ 0 → ⊥)
    → value_within most v ≡ (leb (item_count vs) 1000 && (leb (items_nesting vs) (most - 1) && are_items_tidy vs))
items_in most v vs is some =
    rw (is, deeper (items_nesting vs) most some) (aside (leb (items_nesting vs) (most - 1)) (leb (item_count vs) 1000) (are_items_tidy vs))

-- as many fields, and as many items, as the list has entries
pub field_count-length : (fs : List Entry) → field_count (fields_data fs) ≡ length fs
field_count-length [] = refl
field_count-length (f ∷ fs) = ap suc (field_count-length fs)

pub item_count-length : (vs : List TagValue) → item_count (items_data vs) ≡ length vs
item_count-length [] = refl
item_count-length (v ∷ vs) = ap suc (item_count-length vs)

-- ---- names that ascend

one_is_enough : (next all rest : Bool) → (next ≡ true → rest ≡ true → all ≡ true) → ((next && all) && rest) ≡ (next && rest)
one_is_enough false all rest h = refl
one_is_enough true true rest h = refl
one_is_enough true false true h = absurd (let e = h refl refl in cc)
one_is_enough true false false h = refl

ascending_step : (f : Entry) (fs : List Entry) → is_ascending (fields_data (f ∷ fs)) ≡ (is_below_next f.0 fs && is_ascending (fields_data fs))
ascending_step f [] = refl
ascending_step f (g ∷ gs) =
    one_is_enough (is_lt (slice_cmp nat_cmp f.0 g.0)) (is_below f.0 (fields_data gs)) (is_ascending (fields_data (g ∷ gs))) (λ next rest. is_below-trans f.0 g.0 (fields_data gs) next (first_so _ _ rest))

-- one field further
pub ascending_more : (fs : List Entry) (i : ℕ) (f : Entry) (b : Bool) → i < length fs → f ≡ get_or fs i f → is_below_next f.0 (drop (i + 1) fs) ≡ b → is_ascending (fields_data (drop i fs)) ≡ (b && is_ascending (fields_data (drop (i + 1) fs)))
ascending_more fs i f b within is next =
    let here : drop i fs ≡ f ∷ drop (i + 1) fs = drop_more fs i f within ∙ ap (λ (y : Entry). y ∷ drop (i + 1) fs) (sym is) in
    ap (λ (ys : List Entry). is_ascending (fields_data ys)) here ∙ ascending_step f (drop (i + 1) fs) ∙ ap (λ c. c && is_ascending (fields_data (drop (i + 1) fs))) next
