-- A part of a tidy value is tidy, and nests no deeper.
use Rattle.std.proofs.Common.{◌≡◌, ℕ, zero, suc, ◌<◌, ◌≤◌, true, leb, List, [], ◌∷◌, length, get_or, drop, refl, arith}
use Rattle.std.specs.Cmp.{first_so, second_so}
use Rattle.std.proofs.lemmas.Bool.Decides.{nat_tests}
use Rattle.std.proofs.lemmas.List.Recursion.{and_at, max_bounds}
use Rattle.powerbox_match.specs.declared.value.TagValue.{TagValue}
use Rattle.powerbox_match.specs.Value.{TagData, nesting, is_within_limits, items_nesting, fields_nesting, is_tidy, is_ascending, are_fields_tidy, are_items_tidy, tag_data, fields_data, items_data}
use Rattle.powerbox_match.specs.Sorted.{is_sorted, are_fields_sorted, are_items_sorted}

-- a field as a clause sees it
abbrev pub Entry : Type 0
Entry = List ℕ × TagValue

-- an item of a tidy list is tidy
pub items_tidy_at : (xs : List TagValue) (i : ℕ) (d : TagValue) → i < length xs → are_items_tidy (items_data xs) ≡ true → is_tidy (tag_data (get_or xs i d)) ≡ true
items_tidy_at = and_at (λ ys. are_items_tidy (items_data ys)) (λ v. is_tidy (tag_data v)) refl (λ _ _. refl)

-- a field's value in a tidy list is tidy
pub fields_tidy_at : (xs : List Entry) (i : ℕ) (d : Entry) → i < length xs → are_fields_tidy (fields_data xs) ≡ true → is_tidy (tag_data (get_or xs i d).1) ≡ true
fields_tidy_at = and_at (λ ys. are_fields_tidy (fields_data ys)) (λ f. is_tidy (tag_data f.1)) refl (λ _ _. refl)

-- an item of a list that is sorted within is sorted
pub items_sorted_at : (xs : List TagValue) (i : ℕ) (d : TagValue) → i < length xs → are_items_sorted (items_data xs) ≡ true → is_sorted (tag_data (get_or xs i d)) ≡ true
items_sorted_at = and_at (λ ys. are_items_sorted (items_data ys)) (λ v. is_sorted (tag_data v)) refl (λ _ _. refl)

-- and a field's value
pub fields_sorted_at : (xs : List Entry) (i : ℕ) (d : Entry) → i < length xs → are_fields_sorted (fields_data xs) ≡ true → is_sorted (tag_data (get_or xs i d).1) ≡ true
fields_sorted_at = and_at (λ ys. are_fields_sorted (fields_data ys)) (λ f. is_sorted (tag_data f.1)) refl (λ _ _. refl)

-- what is left of an ascending list ascends
pub is_ascending-drop : (i : ℕ) (xs : List Entry) → is_ascending (fields_data xs) ≡ true → is_ascending (fields_data (drop i xs)) ≡ true
is_ascending-drop zero xs h = h
is_ascending-drop (suc i) [] h = h
is_ascending-drop (suc i) (x ∷ xs) h = is_ascending-drop i xs (second_so _ _ h)

-- an item nests no deeper than the deepest
pub items_nesting_at : (xs : List TagValue) (i : ℕ) (d : TagValue) → i < length xs → nesting (tag_data (get_or xs i d)) ≤ items_nesting (items_data xs)
items_nesting_at = max_bounds (λ ys. items_nesting (items_data ys)) (λ v. nesting (tag_data v)) refl (λ _ _. refl)

-- a field's value nests no deeper than the deepest
pub fields_nesting_at : (xs : List Entry) (i : ℕ) (d : Entry) → i < length xs → nesting (tag_data (get_or xs i d).1) ≤ fields_nesting (fields_data xs)
fields_nesting_at = max_bounds (λ ys. fields_nesting (fields_data ys)) (λ f. nesting (tag_data f.1)) refl (λ _ _. refl)

at_most_16 : (n : ℕ) → n ≤ 16 → leb n 16 ≡ true
at_most_16 n h = grind (arith, nat_tests)

from_at_most_16 : (n : ℕ) → leb n 16 ≡ true → n ≤ 16
from_at_most_16 n h = grind (arith, nat_tests)

-- the two limits of a value together, and each of them
pub within_from : (d : TagData) → nesting d ≤ 16 → is_tidy d ≡ true → is_within_limits d ≡ true
within_from d shallow tidy = rw (at_most_16 (nesting d) shallow, tidy) refl

pub shallow_within : (d : TagData) → is_within_limits d ≡ true → nesting d ≤ 16
shallow_within d h = from_at_most_16 (nesting d) (first_so _ _ h)

pub tidy_within : (d : TagData) → is_within_limits d ≡ true → is_tidy d ≡ true
tidy_within d h = second_so _ _ h
