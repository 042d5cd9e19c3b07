-- A tag's value, level by level.
use Rattle.std.proofs.Common.{◌≡◌, ℕ, List, Vec, Global, map, ap, ◌∙◌, rules}
use Rattle.std.specs.Prelude.{ℤ}
use Rattle.powerbox_match.specs.Value.{any, number, text, fields, items, tag_data, field_data, fields_of, items_of}
use Rattle.powerbox_match.specs.declared.value.TagValue.{TagValue, Any, Number, Text, Fields, Items, the_lemmas}

tag_data-Any : tag_data Any ≡ any
tag_data-Any = search (rules, the_lemmas)

tag_data-Number : (n : ℤ) → tag_data (Number n) ≡ number n
tag_data-Number n = search (rules, the_lemmas)

tag_data-Text : (t : List ℕ) → tag_data (Text t) ≡ text t
tag_data-Text t = search (rules, the_lemmas)

tag_data-Fields : (w : Vec (List ℕ × TagValue) Global) → tag_data (Fields w) ≡ fields (fields_of (map field_data w.items))
tag_data-Fields w = search (rules, the_lemmas)

tag_data-Items : (w : Vec TagValue Global) → tag_data (Items w) ≡ items (items_of (map tag_data w.items))
tag_data-Items w = search (rules, the_lemmas)

pub seen_any : (v : TagValue) → v ≡ Any → tag_data v ≡ any
seen_any v is = ap tag_data is ∙ tag_data-Any

pub seen_number : (v : TagValue) (n : ℤ) → v ≡ Number n → tag_data v ≡ number n
seen_number v n is = ap tag_data is ∙ tag_data-Number n

pub seen_text : (v : TagValue) (t : List ℕ) → v ≡ Text t → tag_data v ≡ text t
seen_text v t is = ap tag_data is ∙ tag_data-Text t

pub seen_fields : (v : TagValue) (w : Vec (List ℕ × TagValue) Global) → v ≡ Fields w → tag_data v ≡ fields (fields_of (map field_data w.items))
seen_fields v w is = ap tag_data is ∙ tag_data-Fields w

pub seen_items : (v : TagValue) (w : Vec TagValue Global) → v ≡ Items w → tag_data v ≡ items (items_of (map tag_data w.items))
seen_items v w is = ap tag_data is ∙ tag_data-Items w
