-- A value of a tag nests as deep as the JSON value that states it.
use Rattle.std.proofs.Common.{◌≡◌, ℕ, suc, ◌<◌, ◌≤◌, Bool, true, false, leb, cond, List, [], ◌∷◌, ◌++◌, Option, Some, None, option_map, length, get_or, refl, ap, arith}
use Rattle.std.specs.Option.{option_map_or}
use Rattle.std.proofs.lemmas.List.Recursion.{max_bounds}
use Rattle.serde_json.specs.Data.{Data, Items, Members}
use Rattle.serde_json.specs.Events.{items_len, members_len}
use Rattle.serde_json.specs.Find.{as_integer}
use Rattle.serde_json.specs.View.{view, items_view, members_view}
use Rattle.serde_json.specs.declared.value.Value.{Value}
use Rattle.serde_json.proofs.Views.{Entry}
use Rattle.powerbox_match.specs.Value.{TagData, any, number, text, fields, items, FieldsData, no_fields, ItemsData, no_items, item, nesting, fields_nesting, items_nesting}
use Rattle.powerbox_match.specs.Shape.{json_nesting, json_items_nesting, json_members_nesting, text_of, value_of, stated_items, stated_fields, tag_nesting, deepest_value, value_or_any}
use Rattle.powerbox_match.proofs.Stated.{both_there, fields_there}

mapped_there : {A : Type 0} (f : A → TagData) (o : Option A) (t : TagData) → option_map f o ≡ Some t → (x : A) × (o ≡ Some x) × (t ≡ f x)
mapped_there f (Some x) t e = (x, refl, cc)
mapped_there f None t e = absurd (cc)

under_count : {A : Type 0} (b : Bool) (f : A → TagData) (o : Option A) (t : TagData) → cond b (option_map f o) None ≡ Some t → (x : A) × (o ≡ Some x) × (t ≡ f x)
under_count true f o t e = mapped_there f o t e
under_count false f o t e = absurd (cc)

mutual
  pub nesting-value_of : (d : Data) (t : TagData) → value_of d ≡ Some t → nesting t ≡ json_nesting d
  nesting-value_of Data.null t e = let is : t ≡ any = cc in rw is
  nesting-value_of (Data.boolean b) t e = absurd (cc)
  nesting-value_of (Data.number n) t e = let p = mapped_there number (as_integer n) t e in rw p.2
  nesting-value_of (Data.string s) t e = let p = mapped_there text (text_of s) t e in rw p.2
  nesting-value_of (Data.array ds) t e =
      let p = under_count (leb (items_len ds) 1000) items (stated_items ds) t e in rw p.2 (ap suc (items_nesting-stated ds p.0 p.1))
  nesting-value_of (Data.object ms) t e =
      let p = under_count (leb (members_len ms) 1000) fields (stated_fields ms) t e in rw p.2 (ap suc (fields_nesting-stated ms p.0 p.1))

  items_nesting-stated : (ds : Items) (vs : ItemsData) → stated_items ds ≡ Some vs → items_nesting vs ≡ json_items_nesting ds
  items_nesting-stated Items.no_items vs e = let is : vs ≡ no_items = cc in rw is
  items_nesting-stated (Items.item d ds) vs e =
      let p = both_there item (value_of d) (stated_items ds) vs e in
      rw (p.4, nesting-value_of d p.0 p.2, items_nesting-stated ds p.1 p.3)

  fields_nesting-stated : (ms : Members) (fs : FieldsData) → stated_fields ms ≡ Some fs → fields_nesting fs ≡ json_members_nesting ms
  fields_nesting-stated Members.no_members fs e = let is : fs ≡ no_fields = cc in rw is
  fields_nesting-stated (Members.member k d ms) fs e =
      let p = fields_there k d ms fs e in
      rw (p.5, nesting-value_of d p.0 p.3, fields_nesting-stated ms p.1 p.4)

-- a tag's value nests no deeper than the deepest
pub nests_at_most : (ds : List Value) (i : ℕ) (d : Value) → i < length ds → tag_nesting (view (get_or ds i d)) ≤ deepest_value (items_view ds)
nests_at_most ds i d within =
    max_bounds (λ (xs : List Value). deepest_value (items_view xs)) (λ (x : Value). tag_nesting (view x)) refl (λ _ _. refl) ds i d within

-- a value that is stated, or anything, nests at most 16 deep where the JSON value does
pub nesting-value_or_any : (o : Option Data) (t : TagData) → option_map_or json_nesting o 0 ≤ 16 → value_or_any o ≡ Some t → nesting t ≤ 16
nesting-value_or_any None t few e = let is : t ≡ any = cc in rw is (omega arith)
nesting-value_or_any (Some d) t few e = omega (arith, nesting-value_of d t e)

-- an item nests no deeper than the deepest
pub item_nests_at_most : (ds : List Value) (i : ℕ) (d : Value) → i < length ds → json_nesting (view (get_or ds i d)) ≤ json_items_nesting (items_view ds)
item_nests_at_most ds i d within =
    max_bounds (λ (xs : List Value). json_items_nesting (items_view xs)) (λ (x : Value). json_nesting (view x)) refl (λ _ _. refl) ds i d within

-- a member nests no deeper than the deepest
pub member_nests_at_most : (es : List Entry) (e : Entry) (more : List Entry) → json_nesting (view e.1) ≤ json_members_nesting (members_view (es ++ e ∷ more))
member_nests_at_most [] e more = omega arith
member_nests_at_most (x ∷ es) e more = omega (arith, member_nests_at_most es e more)
