-- An aid for proofs: the steps in which lists are put in order and walked, and matches are searched.
use Rattle.std.specs.Prelude.{◌≡◌, ℕ, ◌+◌, ◌-◌, ◌*◌, ℤ, Bool, true, false, ⊤, List, [], ◌∷◌, Option, Some, None, if◌then◌else◌}
use Rattle.std.specs.Ordering.{nat_cmp, int_eq, is_lt}
use Rattle.std.specs.Cmp.Lexicographic.{slice_cmp}
use Rattle.powerbox_match.specs.declared.value.Quality.{Quality}
use Rattle.powerbox_match.specs.declared.value.Quality.TheVariants.{Acceptable, Preferred, Unacceptable}
use Rattle.powerbox_match.specs.declared.value.TagValue.{TagValue}
use Rattle.powerbox_match.specs.Value.{TagData, any, number, FieldsData, ItemsData, no_items, item, tag_data}
use Rattle.powerbox_match.specs.Matching.{pair_quality}
use Rattle.powerbox_match.specs.Comparisons.{weight, lists, fields_weight, fields_lists, items_weight, items_lists}
use Rattle.powerbox_match.specs.Sorted.{item_cmp, IsSortedForm}

-- the fields without those in front whose names are below a name
abbrev pub fields_not_below : List ℕ → List (List ℕ × TagValue) → List (List ℕ × TagValue)
fields_not_below name [] = []
fields_not_below name (f ∷ fs) = if is_lt (slice_cmp nat_cmp f.0 name) then fields_not_below name fs else f ∷ fs

-- whether a name is below that of the first field, if there is one
abbrev pub is_below_next : List ℕ → List (List ℕ × TagValue) → Bool
is_below_next name [] = true
is_below_next name (f ∷ fs) = is_lt (slice_cmp nat_cmp name f.0)

-- the items without those in front that are to stand before a value
abbrev pub items_not_before : TagData → List TagValue → List TagValue
items_not_before v [] = []
items_not_before v (w ∷ ws) = if is_lt (item_cmp (tag_data w) v) then items_not_before v ws else w ∷ ws

-- whether the first of the items is anything
abbrev pub begins_with_any : ItemsData → Bool
begins_with_any no_items = false
begins_with_any (item any vs) = true
begins_with_any (item v vs) = false

-- whether the first of the items is a number
abbrev pub begins_with_number : ℤ → ItemsData → Bool
begins_with_number n (item (number m) vs) = int_eq n m
begins_with_number n vs = false

-- each value of a list is the form in which the other list's value at its place is compared
abbrev pub AreForms : List TagValue → List TagValue → Type 0
AreForms [] [] = ⊤
AreForms (s ∷ ss) (v ∷ vs) = IsSortedForm (tag_data s) (tag_data v) × AreForms ss vs
AreForms ss vs = ⊥

-- the same of fields, whose names stay
abbrev pub AreFieldForms : List (List ℕ × TagValue) → List (List ℕ × TagValue) → Type 0
AreFieldForms [] [] = ⊤
AreFieldForms (s ∷ ss) (f ∷ fs) =
    (s.0 ≡ f.0) × IsSortedForm (tag_data s.1) (tag_data f.1) × AreFieldForms ss fs
AreFieldForms ss fs = ⊥

-- of the qualities that occur, the strongest: unacceptable before preferred before acceptable
abbrev pub strongest : (Quality → Bool) → Option Quality
strongest occurs =
    if occurs Unacceptable then Some Unacceptable
    else (if occurs Preferred then Some Preferred
    else (if occurs Acceptable then Some Acceptable else None))

-- the stronger of two qualities, either of which may be missing
abbrev pub stronger : Option Quality → Option Quality → Option Quality
stronger None other = other
stronger (Some one) None = Some one
stronger (Some one) (Some other) = Some (pair_quality one other)

-- whether a quality is unacceptable, than which none is stronger
abbrev pub is_unacceptable : Option Quality → Bool
is_unacceptable (Some Unacceptable) = true
is_unacceptable quality = false

-- how many comparisons two parts take at most, by how many values and lists there are in a query's and in an offer's
abbrev pub most_by : ℕ → ℕ → ℕ → ℕ → ℕ
most_by weight lists other_weight other_lists = 2 * weight * other_lists + other_weight * lists

-- the same of fields
abbrev pub most_for_fields : FieldsData → FieldsData → ℕ
most_for_fields fs gs = most_by (fields_weight fs) (fields_lists fs) (fields_weight gs) (fields_lists gs)

-- the same of items
abbrev pub most_for_items : ItemsData → ItemsData → ℕ
most_for_items vs ws = most_by (items_weight vs) (items_lists vs) (items_weight ws) (items_lists ws)

-- the same of two values: a value that is no list takes one comparison more
abbrev pub most_for_values : TagData → TagData → ℕ
most_for_values v w = (1 - lists v) + most_by (weight v) (lists v) (weight w) (lists w)

-- the same of a value and of items, none of which is to stand before it
abbrev pub most_among_items : TagData → ItemsData → ℕ
most_among_items v ws = (1 - lists v) + most_by (weight v) (lists v) (items_weight ws) (items_lists ws)
