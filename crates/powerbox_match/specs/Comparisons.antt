-- How many comparisons a match takes at most: by how many values, and how many lists, there are in what is compared.
use Rattle.std.specs.Prelude.{ℕ, suc, ◌+◌, ◌*◌, List, [], ◌∷◌}
use Rattle.powerbox_match.specs.Value.{TagData, any, number, text, fields, items, FieldsData, no_fields, field, ItemsData, no_items, item}
use Rattle.powerbox_match.specs.Descriptor.{DescriptorData}

-- how many values there are in a value, itself too
abbrev mutual
  pub weight : TagData → ℕ
  weight any = 1
  weight (number n) = 1
  weight (text t) = 1
  weight (fields fs) = suc (fields_weight fs)
  weight (items vs) = suc (items_weight vs)

  pub fields_weight : FieldsData → ℕ
  fields_weight no_fields = 0
  fields_weight (field name v fs) = weight v + fields_weight fs

  pub items_weight : ItemsData → ℕ
  items_weight no_items = 0
  items_weight (item v vs) = weight v + items_weight vs

-- how many lists there are in a value, of fields or of items, itself too
abbrev mutual
  pub lists : TagData → ℕ
  lists any = 0
  lists (number n) = 0
  lists (text t) = 0
  lists (fields fs) = suc (fields_lists fs)
  lists (items vs) = suc (items_lists vs)

  pub fields_lists : FieldsData → ℕ
  fields_lists no_fields = 0
  fields_lists (field name v fs) = lists v + fields_lists fs

  pub items_lists : ItemsData → ℕ
  items_lists no_items = 0
  items_lists (item v vs) = lists v + items_lists vs

-- how many values there are in tags, each tag counting as one more
abbrev pub tags_weight : List (ℕ × TagData) → ℕ
tags_weight [] = 0
tags_weight (tag ∷ tags) = suc (weight tag.1) + tags_weight tags

-- how many lists there are in tags, each tag counting as one more
abbrev pub tags_lists : List (ℕ × TagData) → ℕ
tags_lists [] = 0
tags_lists (tag ∷ tags) = suc (lists tag.1) + tags_lists tags

-- how many values there are in descriptors, each tag and each descriptor counting as one more
abbrev pub weight_of : List DescriptorData → ℕ
weight_of [] = 0
weight_of (descriptor ∷ rest) = suc (tags_weight descriptor.tags) + weight_of rest

-- how many lists there are in descriptors, each tag and each descriptor counting as one more
abbrev pub lists_of : List DescriptorData → ℕ
lists_of [] = 0
lists_of (descriptor ∷ rest) = suc (tags_lists descriptor.tags) + lists_of rest

-- how many comparisons a match takes at most: each value of a query is looked at at most twice for each list of the
-- offers, and each value of the offers once for each list of the query
abbrev pub most_comparisons : List DescriptorData → List DescriptorData → ℕ
most_comparisons query offers = 2 * weight_of query * lists_of offers + weight_of offers * lists_of query
