-- When a query matches offers, and with which quality.
use Rattle.std.specs.Prelude.{ℕ, ◌&&◌, ◌||◌, ◌==◌, Bool, true, false, List, Option, Some, None, if◌then◌else◌}
use Rattle.std.specs.List.{list_any, list_all}
use Rattle.std.specs.Option.{option_map_or}
use Rattle.std.specs.Ordering.{int_eq}
use Rattle.std.specs.Str.{bytes_eq}
use Rattle.powerbox_match.specs.declared.value.Quality.{Quality}
use Rattle.powerbox_match.specs.declared.value.Quality.TheVariants.{Acceptable, Preferred, Unacceptable}
use Rattle.powerbox_match.specs.Value.{TagData, any, number, text, fields, items, FieldsData, no_fields, field, ItemsData, no_items, item}
use Rattle.powerbox_match.specs.Descriptor.{DescriptorData}

-- the value of the field with a name, if there is one
abbrev pub get_field : List ℕ → FieldsData → Option TagData
get_field name no_fields = None
get_field name (field next v fs) = if bytes_eq name next then Some v else get_field name fs

-- whether an item passes a test
abbrev pub any_item : (TagData → Bool) → ItemsData → Bool
any_item test no_items = false
any_item test (item v vs) = test v || any_item test vs

-- whether a query's value matches an offer's: anything matches all, numbers and texts match when equal,
-- fields where each one that the offer has too matches, items where each matches some item of the offer
abbrev mutual
  pub value_matches : TagData → TagData → Bool
  value_matches any offer = true
  value_matches query any = true
  value_matches (number n) (number m) = int_eq n m
  value_matches (text s) (text t) = bytes_eq s t
  value_matches (fields fs) (fields gs) = fields_match fs gs
  value_matches (items vs) (items ws) = items_match vs ws
  value_matches query offer = false

  pub fields_match : FieldsData → FieldsData → Bool
  fields_match no_fields offer = true
  fields_match (field name v fs) offer = option_map_or (λ w. value_matches v w) (get_field name offer) true && fields_match fs offer

  pub items_match : ItemsData → ItemsData → Bool
  items_match no_items offer = true
  items_match (item v vs) offer = any_item (λ w. value_matches v w) offer && items_match vs offer

-- whether an offer has a tag with a tag's id and a value that the tag's value matches
abbrev pub tag_matches : ℕ × TagData → List (ℕ × TagData) → Bool
tag_matches tag offer = list_any (λ given. tag.0 == given.0 && value_matches tag.1 given.1) offer

-- whether a query's descriptor matches an offer's: each of its tags does
abbrev pub descriptor_matches : DescriptorData → DescriptorData → Bool
descriptor_matches query offer = list_all (λ tag. tag_matches tag offer.tags) query.tags

-- the quality of a pair that matches: unacceptable where either is, else preferred where either is
abbrev pub pair_quality : Quality → Quality → Quality
pair_quality Unacceptable offer = Unacceptable
pair_quality query Unacceptable = Unacceptable
pair_quality Preferred offer = Preferred
pair_quality query Preferred = Preferred
pair_quality Acceptable Acceptable = Acceptable

-- whether two qualities are the same
abbrev pub same_quality : Quality → Quality → Bool
same_quality Acceptable Acceptable = true
same_quality Preferred Preferred = true
same_quality Unacceptable Unacceptable = true
same_quality one other = false

-- whether a query's descriptor matches some offer with a quality
abbrev pub matches_with : Quality → DescriptorData → List DescriptorData → Bool
matches_with quality query offers = list_any (λ offer. descriptor_matches query offer && same_quality (pair_quality query.quality offer.quality) quality) offers

-- whether some descriptor of a query matches some offer with a quality
abbrev pub some_match : Quality → List DescriptorData → List DescriptorData → Bool
some_match quality query offers = list_any (λ wanted. matches_with quality wanted offers) query

-- the quality with which a query matches offers: none where a pair that matches is unacceptable or no pair
-- matches, else preferred where a pair that matches is, else acceptable
abbrev pub match_of : List DescriptorData → List DescriptorData → Option Quality
match_of query offers =
    if some_match Unacceptable query offers then None
    else (if some_match Preferred query offers then Some Preferred
    else (if some_match Acceptable query offers then Some Acceptable else None))
