-- What a whole array or object states, by what its items or members do.
use Rattle.std.proofs.Common.{◌≡◌, ℕ, ◌<◌, ◌≤◌, Bool, true, false, leb, cond, List, Option, Some, None, option_map, length, string_cmp, refl, ◌∙◌, arith}
use Rattle.std.specs.List.Sorted.{IsStrictlySortedBy}
use Rattle.std.specs.Map.{keys_of}
use Rattle.std.proofs.lemmas.Bool.Decides.{nat_tests}
use Rattle.serde_json.specs.Data.{Data, Items, Members}
use Rattle.serde_json.specs.Events.{items_len, members_len}
use Rattle.serde_json.specs.View.{items_view, members_view}
use Rattle.serde_json.specs.declared.value.Value.{Value}
use Rattle.serde_json.proofs.Views.{Entry, items_len-items_view, members_len-members_view}
use Rattle.powerbox_match.specs.declared.value.TagValue.{TagValue}
use Rattle.plain_data.specs.Name.{is_plain}
use Rattle.powerbox_match.specs.Value.{TagData, fields, items, field_count, item_count, are_items_tidy, are_fields_tidy, is_tidy, items_data, fields_data}
use Rattle.powerbox_match.specs.Shape.{text_of, value_of, stated_items, stated_fields}
use Rattle.powerbox_match.proofs.Tidy.{Entry as Field}
use Rattle.powerbox_match.proofs.Stated.{item_count-stated, field_count-stated, is_ascending-stated}

pub within : (n m : ℕ) → n ≡ m → m ≤ 1000 → leb n 1000 ≡ true
within n m e h = grind (arith, nat_tests)

pub beyond : (n m : ℕ) → n ≡ m → 1000 < m → leb n 1000 ≡ false
beyond n m e h = grind (arith, nat_tests)

none_within : {A : Type 0} (b : Bool) (f : A → TagData) (o : Option A) → o ≡ None → cond b (option_map f o) None ≡ None
none_within true f o e = rw e
none_within false f o e = refl

-- ---- arrays

pub array_stated : (ds : List Value) (vs : List TagValue) → length ds ≤ 1000 → stated_items (items_view ds) ≡ Some (items_data vs) → value_of (Data.array (items_view ds)) ≡ Some (items (items_data vs))
array_stated ds vs few e = rw (within (items_len (items_view ds)) (length ds) (items_len-items_view ds) few, e)

pub array_tidy : (ds : List Value) (vs : List TagValue) → length ds ≤ 1000 → stated_items (items_view ds) ≡ Some (items_data vs) → are_items_tidy (items_data vs) ≡ true → is_tidy (items (items_data vs)) ≡ true
array_tidy ds vs few e tidy =
    rw (within (item_count (items_data vs)) (length ds) (item_count-stated (items_view ds) (items_data vs) e ∙ items_len-items_view ds) few) tidy

pub array_too_long : (ds : List Value) → 1000 < length ds → value_of (Data.array (items_view ds)) ≡ None
array_too_long ds long = rw (beyond (items_len (items_view ds)) (length ds) (items_len-items_view ds) long)

pub array_none : (ds : Items) → stated_items ds ≡ None → value_of (Data.array ds) ≡ None
array_none ds e = none_within (leb (items_len ds) 1000) items (stated_items ds) e

-- ---- objects

pub object_stated : (es : List Entry) (fs : List Field) → length es ≤ 1000 → stated_fields (members_view es) ≡ Some (fields_data fs) → value_of (Data.object (members_view es)) ≡ Some (fields (fields_data fs))
object_stated es fs few e = rw (within (members_len (members_view es)) (length es) (members_len-members_view es) few, e)

pub object_tidy : (es : List Entry) (fs : List Field) → length es ≤ 1000 → IsStrictlySortedBy string_cmp (keys_of es) → stated_fields (members_view es) ≡ Some (fields_data fs) → are_fields_tidy (fields_data fs) ≡ true → is_tidy (fields (fields_data fs)) ≡ true
object_tidy es fs few up e tidy =
    let count = within (field_count (fields_data fs)) (length es) (field_count-stated (members_view es) (fields_data fs) e ∙ members_len-members_view es) few in
    rw (count, is_ascending-stated es (fields_data fs) up e) tidy

pub object_too_long : (es : List Entry) → 1000 < length es → value_of (Data.object (members_view es)) ≡ None
object_too_long es long = rw (beyond (members_len (members_view es)) (length es) (members_len-members_view es) long)

pub object_none : (ms : Members) → stated_fields ms ≡ None → value_of (Data.object ms) ≡ None
object_none ms e = none_within (leb (members_len ms) 1000) fields (stated_fields ms) e

-- ---- names

pub no_text : (bytes : List ℕ) → text_of bytes ≡ None → is_plain bytes ≡ false
no_text bytes = no_text_at (is_plain bytes)
  where
    no_text_at : (b : Bool) → cond b (Some bytes) None ≡ None → b ≡ false
    no_text_at true e = absurd (cc)
    no_text_at false e = refl

pub a_text : (bytes t : List ℕ) → text_of bytes ≡ Some t → (is_plain bytes ≡ true) × (bytes ≡ t)
a_text bytes t = a_text_at (is_plain bytes)
  where
    a_text_at : (b : Bool) → cond b (Some bytes) None ≡ Some t → (b ≡ true) × (bytes ≡ t)
    a_text_at true e = (refl, cc)
    a_text_at false e = absurd (cc)
