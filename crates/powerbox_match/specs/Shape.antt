-- What a JSON value states: the value of a tag, a descriptor, a query, or the first fault of these.
use Rattle.std.specs.Prelude.{ℕ, suc, max, nat_lt, nat_le, List, [], ◌∷◌, codes, Option, Some, None, option_map, option_and_then, Result, Ok, Err, if◌then◌else◌}
use Rattle.std.specs.Option.{option_map_or, ok_or}
use Rattle.std.specs.Str.{bytes_eq}
use Rattle.serde_json.specs.Data.{Data, Items, Members}
use Rattle.serde_json.specs.Events.{items_len, members_len}
use Rattle.serde_json.specs.Find.{get, as_array, as_number, as_str, as_u64, as_integer}
use Rattle.powerbox_match.specs.declared.fault.ShapeFault.{ShapeFault}
use Rattle.powerbox_match.specs.declared.fault.ShapeFault.TheVariants.{BadShape, TooDeep, TooManyTags}
use Rattle.powerbox_match.specs.declared.value.Quality.{Quality}
use Rattle.powerbox_match.specs.declared.value.Quality.TheVariants.{Acceptable, Preferred, Unacceptable}
use Rattle.plain_data.specs.Name.{is_plain}
use Rattle.powerbox_match.specs.Value.{TagData, any, number, text, fields, items, FieldsData, no_fields, field, ItemsData, no_items, item}
use Rattle.powerbox_match.specs.Descriptor.{DescriptorData}

-- how deep a JSON value nests: 1 for one without values in it, and else one more than the deepest in it
abbrev mutual
  pub json_nesting : Data → ℕ
  json_nesting Data.null = 1
  json_nesting (Data.boolean b) = 1
  json_nesting (Data.number n) = 1
  json_nesting (Data.string s) = 1
  json_nesting (Data.array ds) = suc (json_items_nesting ds)
  json_nesting (Data.object ms) = suc (json_members_nesting ms)

  pub json_items_nesting : Items → ℕ
  json_items_nesting Items.no_items = 0
  json_items_nesting (Items.item d ds) = max (json_nesting d) (json_items_nesting ds)

  pub json_members_nesting : Members → ℕ
  json_members_nesting Members.no_members = 0
  json_members_nesting (Members.member k d ms) = max (json_nesting d) (json_members_nesting ms)

-- the text of a tag that bytes are, if they have the form of a name
abbrev pub text_of : List ℕ → Option (List ℕ)
text_of bytes = if is_plain bytes then Some bytes else None

-- two parts put together, where both are there
abbrev pub map_both : {A B C : Type 0} → (A → B → C) → Option A → Option B → Option C
map_both f (Some a) (Some b) = Some (f a b)
map_both f (Some a) None = None
map_both f None b = None

-- the value of a tag that a JSON value states, if it states one: not a boolean or a number that isn't whole,
-- no text or name that may not be one, and no list of more than 1,000 entries
abbrev mutual
  pub value_of : Data → Option TagData
  value_of Data.null = Some any
  value_of (Data.boolean b) = None
  value_of (Data.number n) = option_map number (as_integer n)
  value_of (Data.string s) = option_map text (text_of s)
  value_of (Data.array ds) = if nat_le (items_len ds) 1000 then option_map items (stated_items ds) else None
  value_of (Data.object ms) = if nat_le (members_len ms) 1000 then option_map fields (stated_fields ms) else None

  pub stated_items : Items → Option ItemsData
  stated_items Items.no_items = Some no_items
  stated_items (Items.item d ds) = map_both item (value_of d) (stated_items ds)

  pub stated_fields : Members → Option FieldsData
  stated_fields Members.no_members = Some no_fields
  stated_fields (Members.member k d ms) = if is_plain k then map_both (field k) (value_of d) (stated_fields ms) else None

-- the value of a tag, which is anything where none is stated
abbrev pub value_or_any : Option Data → Option TagData
value_or_any None = Some any
value_or_any (Some d) = value_of d

-- the tag that a JSON value states, if it states one
abbrev pub tag_of : Data → Option (ℕ × TagData)
tag_of d =
    map_both (λ id v. (id, v)) (option_and_then as_u64 (option_and_then as_number (get (codes "id") d))) (value_or_any (get (codes "value") d))

-- the tags that JSON values state, if each states one
abbrev pub tags_of : Items → Option (List (ℕ × TagData))
tags_of Items.no_items = Some []
tags_of (Items.item d ds) = map_both (λ t ts. t ∷ ts) (tag_of d) (tags_of ds)

-- how deep the value of a tag nests, which is 0 where none is stated
abbrev pub tag_nesting : Data → ℕ
tag_nesting d = option_map_or json_nesting (get (codes "value") d) 0

-- how deep the deepest value of a tag nests among JSON values
abbrev pub deepest_value : Items → ℕ
deepest_value Items.no_items = 0
deepest_value (Items.item d ds) = max (tag_nesting d) (deepest_value ds)

-- the list of tags in a JSON value, if there is one
abbrev pub tag_list : Data → Option Items
tag_list d = option_and_then as_array (get (codes "tags") d)

-- the tags of a descriptor, or why it has none: a value deeper than 16, or more than 32 tags, or another fault
abbrev pub tags_or_fault : Option Items → Result (List (ℕ × TagData)) ShapeFault
tags_or_fault None = Err (BadShape 1)
tags_or_fault (Some ds) =
    if nat_lt 16 (deepest_value ds) then Err TooDeep
    else (if nat_lt 32 (items_len ds) then Err TooManyTags
    else ok_or (tags_of ds) (BadShape 1))

-- the quality of a name
abbrev pub quality_named : List ℕ → Option Quality
quality_named name =
    if bytes_eq name (codes "acceptable") then Some Acceptable
    else (if bytes_eq name (codes "preferred") then Some Preferred
    else (if bytes_eq name (codes "unacceptable") then Some Unacceptable else None))

-- the quality of a descriptor, which is acceptable where none is stated
abbrev pub quality_or_fault : Option Data → Result Quality ShapeFault
quality_or_fault None = Ok Acceptable
quality_or_fault (Some d) = ok_or (option_and_then quality_named (as_str d)) (BadShape 2)

-- a descriptor of tags and a quality, or the first fault of these
abbrev pub descriptor_with : Result (List (ℕ × TagData)) ShapeFault → Result Quality ShapeFault → Result DescriptorData ShapeFault
descriptor_with (Err fault) quality = Err fault
descriptor_with (Ok tags) (Err fault) = Err fault
descriptor_with (Ok tags) (Ok quality) = Ok (record { tags = tags; quality = quality })

-- the descriptor that a JSON value states, or its first fault
abbrev pub descriptor_of : Data → Result DescriptorData ShapeFault
descriptor_of d =
    descriptor_with (tags_or_fault (tag_list d)) (quality_or_fault (get (codes "quality") d))

-- a first descriptor and those after it, or the first fault
abbrev pub with_first : Result DescriptorData ShapeFault → Result (List DescriptorData) ShapeFault → Result (List DescriptorData) ShapeFault
with_first (Err fault) rest = Err fault
with_first (Ok d) (Err fault) = Err fault
with_first (Ok d) (Ok ds) = Ok (d ∷ ds)

-- the descriptors that JSON values state, or the fault of the first that has one
abbrev pub descriptors_of : Items → Result (List DescriptorData) ShapeFault
descriptors_of Items.no_items = Ok []
descriptors_of (Items.item d ds) = with_first (descriptor_of d) (descriptors_of ds)

-- the descriptors of a list, or why there is none: it is no list, or one of its values has a fault
abbrev pub query_or_fault : Option Items → Result (List DescriptorData) ShapeFault
query_or_fault None = Err (BadShape 0)
query_or_fault (Some ds) = descriptors_of ds

-- the query that a JSON value states, or its first fault
abbrev pub query_of : Data → Result (List DescriptorData) ShapeFault
query_of d = query_or_fault (as_array d)
