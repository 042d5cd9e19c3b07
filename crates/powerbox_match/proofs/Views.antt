-- A tag's value, level by level, also for who makes a value or takes one apart.
use Rattle.std.proofs.Common.{◌≡◌, ℕ, ℤ, List, Vec, Global, rules}
use Rattle.powerbox_match.specs.Value.{any, number, text, fields, items, tag_data, fields_data, items_data}
use Rattle.powerbox_match.specs.declared.value.TagValue.{TagValue, Any, Number, Text, Fields, Items, the_lemmas}

pub tag_data-Any : tag_data Any ≡ any
tag_data-Any = search (rules, the_lemmas)

pub tag_data-Number : (n : ℤ) → tag_data (Number n) ≡ number n
tag_data-Number n = search (rules, the_lemmas)

pub tag_data-Text : (t : List ℕ) → tag_data (Text t) ≡ text t
tag_data-Text t = search (rules, the_lemmas)

pub tag_data-Fields : (v : Vec (List ℕ × TagValue) Global) → tag_data (Fields v) ≡ fields (fields_data v.items)
tag_data-Fields v = search (rules, the_lemmas)

pub tag_data-Items : (v : Vec TagValue Global) → tag_data (Items v) ≡ items (items_data v.items)
tag_data-Items v = search (rules, the_lemmas)
