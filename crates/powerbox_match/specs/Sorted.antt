-- The form in which a tag's value is compared: each list of items in it stands in order.
use Rattle.std.specs.Prelude.{◌≡◌, ℕ, ◌&&◌, not, Bool, true}
use Rattle.std.specs.Cmp.Lexicographic.{slice_cmp}
use Rattle.std.specs.declared.cmp.Ordering.{Ordering}
use Rattle.std.specs.declared.cmp.Ordering.TheVariants.{Equal}
use Rattle.std.specs.Ordering.{nat_cmp, int_cmp, is_lt, ordering_then}
use Rattle.powerbox_match.specs.Value.{TagData, any, number, text, fields, items, FieldsData, no_fields, field, ItemsData, no_items, item, is_ascending, is_tidy}
use Rattle.powerbox_match.specs.Matching.{value_matches}
use Rattle.powerbox_match.specs.Comparisons.{weight, lists}

-- the place of a value's kind among items: anything, then numbers, then texts, then fields and lists
abbrev pub item_rank : TagData → ℕ
item_rank any = 0
item_rank (number n) = 1
item_rank (text t) = 2
item_rank (fields fs) = 3
item_rank (items vs) = 3

-- how two items of one kind stand: numbers ascend, and texts by their bytes; others may stand either way
abbrev pub atom_cmp : TagData → TagData → Ordering
atom_cmp (number n) (number m) = int_cmp n m
atom_cmp (text s) (text t) = slice_cmp nat_cmp s t
atom_cmp v w = Equal

-- how two items stand in a list that is in order: by their kinds, and then within these
abbrev pub item_cmp : TagData → TagData → Ordering
item_cmp v w = ordering_then (nat_cmp (item_rank v) (item_rank w)) (atom_cmp v w)

-- whether none of the items is to stand before a value
abbrev pub is_first : TagData → ItemsData → Bool
is_first v no_items = true
is_first v (item w ws) = not (is_lt (item_cmp w v)) && is_first v ws

-- whether items stand in order
abbrev pub is_in_order : ItemsData → Bool
is_in_order no_items = true
is_in_order (item v vs) = is_first v vs && is_in_order vs

-- whether each list in a value is in order: fields by their names, and items
abbrev mutual
  pub is_sorted : TagData → Bool
  is_sorted any = true
  is_sorted (number n) = true
  is_sorted (text t) = true
  is_sorted (fields fs) = is_ascending fs && are_fields_sorted fs
  is_sorted (items vs) = is_in_order vs && are_items_sorted vs

  pub are_fields_sorted : FieldsData → Bool
  are_fields_sorted no_fields = true
  are_fields_sorted (field name v fs) = is_sorted v && are_fields_sorted fs

  pub are_items_sorted : ItemsData → Bool
  are_items_sorted no_items = true
  are_items_sorted (item v vs) = is_sorted v && are_items_sorted vs

-- two values match the same offers, and the same queries match them
abbrev pub MatchesAlike : TagData → TagData → Type 0
MatchesAlike a b =
    (d : TagData) → (value_matches a d ≡ value_matches b d) × (value_matches d a ≡ value_matches d b)

-- a tidy value in which each list is in order, which matches as another value does, and in which there are as many
-- values and lists
pub record IsSortedForm (form value : TagData) : Type 0 where
  pub alike : MatchesAlike form value
  pub tidy : is_tidy form ≡ true
  pub sorted : is_sorted form ≡ true
  pub weight : weight form ≡ weight value
  pub lists : lists form ≡ lists value
