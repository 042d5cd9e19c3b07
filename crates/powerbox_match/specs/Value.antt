-- What a tag's value, a descriptor and a query stand for, and how large they may be.
use Rattle.std.specs.Prelude.{ℕ, suc, max, ◌&&◌, ℤ, Bool, true, nat_le, List, [], ◌∷◌, map}
use Rattle.std.specs.Cmp.Lexicographic.{slice_cmp}
use Rattle.std.specs.Ordering.{nat_cmp, is_lt}
use Rattle.powerbox_match.specs.declared.value.TagValue.{TagValue, fold-TagValue}
use Rattle.powerbox_match.specs.declared.value.TagValue.TheOpen.{TagValue-F}

-- the value of a tag: anything, a number, a text, named fields or items
mutual
  pub data TagData : Type 0 where
    any : TagData
    number : ℤ → TagData
    text : List ℕ → TagData
    fields : FieldsData → TagData
    items : ItemsData → TagData

  pub data FieldsData : Type 0 where
    no_fields : FieldsData
    field : List ℕ → TagData → FieldsData → FieldsData

  pub data ItemsData : Type 0 where
    no_items : ItemsData
    item : TagData → ItemsData → ItemsData

-- how deep a value nests: 1 for one without values in it, and else one more than the deepest in it
abbrev mutual
  pub nesting : TagData → ℕ
  nesting any = 1
  nesting (number n) = 1
  nesting (text t) = 1
  nesting (fields fs) = suc (fields_nesting fs)
  nesting (items vs) = suc (items_nesting vs)

  pub fields_nesting : FieldsData → ℕ
  fields_nesting no_fields = 0
  fields_nesting (field name v fs) = max (nesting v) (fields_nesting fs)

  pub items_nesting : ItemsData → ℕ
  items_nesting no_items = 0
  items_nesting (item v vs) = max (nesting v) (items_nesting vs)

-- how many fields there are
abbrev pub field_count : FieldsData → ℕ
field_count no_fields = 0
field_count (field name v fs) = suc (field_count fs)

-- how many items there are
abbrev pub item_count : ItemsData → ℕ
item_count no_items = 0
item_count (item v vs) = suc (item_count vs)

-- whether each of the fields' names is above a name, by their bytes
abbrev pub is_below : List ℕ → FieldsData → Bool
is_below name no_fields = true
is_below name (field next v fs) = is_lt (slice_cmp nat_cmp name next) && is_below name fs

-- whether the names ascend by their bytes, so that none stands twice
abbrev pub is_ascending : FieldsData → Bool
is_ascending no_fields = true
is_ascending (field name v fs) = is_below name fs && is_ascending fs

-- whether each list in a value has at most 1,000 entries, and the names of fields ascend
abbrev mutual
  pub is_tidy : TagData → Bool
  is_tidy any = true
  is_tidy (number n) = true
  is_tidy (text t) = true
  is_tidy (fields fs) = nat_le (field_count fs) 1000 && is_ascending fs && are_fields_tidy fs
  is_tidy (items vs) = nat_le (item_count vs) 1000 && are_items_tidy vs

  pub are_fields_tidy : FieldsData → Bool
  are_fields_tidy no_fields = true
  are_fields_tidy (field name v fs) = is_tidy v && are_fields_tidy fs

  pub are_items_tidy : ItemsData → Bool
  are_items_tidy no_items = true
  are_items_tidy (item v vs) = is_tidy v && are_items_tidy vs

-- whether a value is within the limits of a tag: it nests at most 16 deep, each list in it has at most 1,000 entries,
-- and the names of fields ascend
abbrev pub is_within_limits : TagData → Bool
is_within_limits d = nat_le (nesting d) 16 && is_tidy d

-- the fields of a list, in order
abbrev pub fields_of : List (List ℕ × TagData) → FieldsData
fields_of [] = no_fields
fields_of (f ∷ fs) = field f.0 f.1 (fields_of fs)

-- the items of a list, in order
abbrev pub items_of : List TagData → ItemsData
items_of [] = no_items
items_of (v ∷ vs) = item v (items_of vs)

-- one level of a `TagValue`, with each value inside already seen as its data
abbrev pub data_step : TagValue-F TagData → TagData
data_step TagValue-F.Any = any
data_step (TagValue-F.Number n) = number n
data_step (TagValue-F.Text t) = text t
data_step (TagValue-F.Fields v) = fields (fields_of v.items)
data_step (TagValue-F.Items v) = items (items_of v.items)

-- what a `TagValue` stands for
abbrev pub tag_data : TagValue → TagData
tag_data = fold-TagValue TagData data_step

-- what a name and its value stand for
abbrev pub field_data : List ℕ × TagValue → List ℕ × TagData
field_data f = (f.0, tag_data f.1)

-- what a list of names and their values stands for
abbrev pub fields_data : List (List ℕ × TagValue) → FieldsData
fields_data fs = fields_of (map field_data fs)

-- what a list of values stands for
abbrev pub items_data : List TagValue → ItemsData
items_data vs = items_of (map tag_data vs)
