-- What lists of JSON values state, one value more at a time.
use Rattle.std.proofs.Common.{◌≡◌, ℕ, zero, suc, ◌+◌, ◌<◌, Bool, true, false, cond, List, [], ◌∷◌, ◌++◌, Option, Some, None, String, Global, length, get_or, take, string_bytes, string_cmp, Less, refl, sym, ap, ◌∙◌, arith}
use Rattle.std.specs.Cmp.{first_so, second_so}
use Rattle.std.specs.List.{AllByRecursion}
use Rattle.std.specs.List.Sorted.{IsStrictlySortedBy}
use Rattle.std.specs.Map.{keys_of}
use Rattle.std.specs.Ordering.{is_lt}
use Rattle.std.proofs.lemmas.List.{take_more}
use Rattle.serde_json.specs.Data.{Data, Items, Members}
use Rattle.serde_json.specs.Events.{items_len, members_len}
use Rattle.serde_json.specs.View.{view, items_view, members_view}
use Rattle.serde_json.specs.declared.value.Value.{Value}
use Rattle.serde_json.proofs.Views.{Entry}
use Rattle.powerbox_match.specs.declared.value.TagValue.{TagValue}
use Rattle.plain_data.specs.Name.{is_plain}
use Rattle.powerbox_match.specs.Value.{TagData, FieldsData, no_fields, field, ItemsData, no_items, item, field_count, item_count, is_below, is_ascending, are_items_tidy, are_fields_tidy, tag_data, is_tidy, items_data, fields_data}
use Rattle.powerbox_match.specs.Shape.{map_both, value_of, stated_items, stated_fields}
use Rattle.powerbox_match.proofs.Tidy.{Entry as Field}

-- both parts are there where they are put together
pub both_there : {A B C : Type 0} (f : A → B → C) (a : Option A) (b : Option B) (c : C) → map_both f a b ≡ Some c → (x : A) × (y : B) × (a ≡ Some x) × (b ≡ Some y) × (c ≡ f x y)
both_there f (Some x) (Some y) c e = (x, y, refl, refl, cc)
both_there f (Some x) None c e = absurd (cc)
both_there f None b c e = absurd (cc)

pub none_first : {A B C : Type 0} (f : A → B → C) (a : Option A) (b : Option B) → a ≡ None → map_both f a b ≡ None
none_first f (Some a) b e = absurd (cc)
none_first f None b e = refl

pub none_second : {A B C : Type 0} (f : A → B → C) (a : Option A) (b : Option B) → b ≡ None → map_both f a b ≡ None
none_second f (Some a) (Some b) e = absurd (cc)
none_second f (Some a) None e = refl
none_second f None b e = refl

-- ---- items

-- one item more is stated
pub stated_items-push : (ds : List Value) (vs : List TagValue) (d : Value) (v : TagValue) → stated_items (items_view ds) ≡ Some (items_data vs) → value_of (view d) ≡ Some (tag_data v)
    → stated_items (items_view (ds ++ d ∷ [])) ≡ Some (items_data (vs ++ v ∷ []))
stated_items-push [] [] d v e h = rw h
stated_items-push [] (w ∷ ws) d v e h = absurd (cc)
stated_items-push (x ∷ ds) [] d v e h = let p = both_there item (value_of (view x)) (stated_items (items_view ds)) no_items e in absurd (let q = p.4 in cc)
stated_items-push (x ∷ ds) (w ∷ ws) d v e h =
    let p = both_there item (value_of (view x)) (stated_items (items_view ds)) (item (tag_data w) (items_data ws)) e in
    let is : item (tag_data w) (items_data ws) ≡ item p.0 p.1 = p.4 in
    let here : value_of (view x) ≡ Some (tag_data w) = let q = p.2 in cc in
    let rest : stated_items (items_view ds) ≡ Some (items_data ws) = let q = p.3 in cc in
    rw (here, stated_items-push ds ws d v rest h)

-- the same in a loop over a list
pub stated_items_more : (ds : List Value) (i : ℕ) (d : Value) (vs : List TagValue) (v : TagValue) → i < length ds → d ≡ get_or ds i d → stated_items (items_view (take i ds)) ≡ Some (items_data vs) → value_of (view d) ≡ Some (tag_data v)
    → stated_items (items_view (take (i + 1) ds)) ≡ Some (items_data (vs ++ v ∷ []))
stated_items_more ds i d vs v within is e h =
    let more : take (i + 1) ds ≡ take i ds ++ d ∷ [] = take_more ds i d within ∙ ap (λ (x : Value). take i ds ++ x ∷ []) (sym is) in
    rw more (stated_items-push (take i ds) vs d v e h)

pub are_items_tidy-push : (vs : List TagValue) (v : TagValue) → are_items_tidy (items_data vs) ≡ true → is_tidy (tag_data v) ≡ true → are_items_tidy (items_data (vs ++ v ∷ [])) ≡ true
are_items_tidy-push [] v e h = rw h
are_items_tidy-push (w ∷ ws) v e h =
    let here : is_tidy (tag_data w) ≡ true = first_so _ _ e in
    rw here (are_items_tidy-push ws v (second_so _ _ e) h)

-- a value that states none, and then the list states none
pub stated_items_none : (ds : List Value) (i : ℕ) (d : Value) → i < length ds → d ≡ get_or ds i d → value_of (view d) ≡ None → stated_items (items_view ds) ≡ None
stated_items_none [] i d within is h = absurd (omega arith)
stated_items_none (x ∷ ds) zero d within is h = none_first item (value_of (view x)) (stated_items (items_view ds)) (ap (λ (y : Value). value_of (view y)) (sym is) ∙ h)
stated_items_none (x ∷ ds) (suc i) d within is h = none_second item (value_of (view x)) (stated_items (items_view ds)) (stated_items_none ds i d (omega arith) is h)

-- as many items as values
pub item_count-stated : (ds : Items) (vs : ItemsData) → stated_items ds ≡ Some vs → item_count vs ≡ items_len ds
item_count-stated Items.no_items vs e = let is : vs ≡ no_items = cc in rw is
item_count-stated (Items.item d ds) vs e =
    let p = both_there item (value_of d) (stated_items ds) vs e in
    rw p.4 (ap suc (item_count-stated ds p.1 p.3))

-- ---- fields

under_name : (b : Bool) (o : Option FieldsData) (fs : FieldsData) → cond b o None ≡ Some fs → (b ≡ true) × (o ≡ Some fs)
under_name true o fs e = (refl, e)
under_name false o fs e = absurd (cc)

-- the first field that is stated, and those after it
pub fields_there : (k : List ℕ) (d : Data) (ms : Members) (fs : FieldsData) → stated_fields (Members.member k d ms) ≡ Some fs
    → (v : TagData) × (rest : FieldsData) × (is_plain k ≡ true) × (value_of d ≡ Some v) × (stated_fields ms ≡ Some rest) × (fs ≡ field k v rest)
fields_there k d ms fs e =
    let p = under_name (is_plain k) (map_both (field k) (value_of d) (stated_fields ms)) fs e in
    let q = both_there (field k) (value_of d) (stated_fields ms) fs p.1 in
    (q.0, q.1, p.0, q.2, q.3, q.4)

-- one member more is stated
pub stated_fields-push : (es : List Entry) (fs : List Field) (e : Entry) (f : Field) → stated_fields (members_view es) ≡ Some (fields_data fs) → string_bytes e.0 ≡ f.0 → is_plain (string_bytes e.0) ≡ true → value_of (view e.1) ≡ Some (tag_data f.1)
    → stated_fields (members_view (es ++ e ∷ [])) ≡ Some (fields_data (fs ++ f ∷ []))
stated_fields-push [] [] e f h name good v = rw (good, v, name)
stated_fields-push [] (g ∷ gs) e f h name good v = absurd (cc)
stated_fields-push (x ∷ es) [] e f h name good v =
    let p = fields_there (string_bytes x.0) (view x.1) (members_view es) no_fields h in absurd (let q = p.5 in cc)
stated_fields-push (x ∷ es) (g ∷ gs) e f h name good v =
    let p = fields_there (string_bytes x.0) (view x.1) (members_view es) (field g.0 (tag_data g.1) (fields_data gs)) h in
    let is : field g.0 (tag_data g.1) (fields_data gs) ≡ field (string_bytes x.0) p.0 p.1 = p.5 in
    let key : string_bytes x.0 ≡ g.0 = cc in
    let text_key : is_plain (string_bytes x.0) ≡ true = p.2 in
    let here : value_of (view x.1) ≡ Some (tag_data g.1) = let q = p.3 in cc in
    let rest : stated_fields (members_view es) ≡ Some (fields_data gs) = let q = p.4 in cc in
    rw (text_key, here, stated_fields-push es gs e f rest name good v, key)

pub are_fields_tidy-push : (fs : List Field) (f : Field) → are_fields_tidy (fields_data fs) ≡ true → is_tidy (tag_data f.1) ≡ true → are_fields_tidy (fields_data (fs ++ f ∷ [])) ≡ true
are_fields_tidy-push [] f e h = rw h
are_fields_tidy-push (g ∷ gs) f e h =
    let here : is_tidy (tag_data g.1) ≡ true = first_so _ _ e in
    rw here (are_fields_tidy-push gs f (second_so _ _ e) h)

none_under_name : (b : Bool) (o : Option FieldsData) → o ≡ None → cond b o None ≡ None
none_under_name true o e = e
none_under_name false o e = refl

-- a member that states no field, and then the object states none
pub stated_fields_none : (es : List Entry) (e : Entry) (more : List Entry) → stated_fields (members_view (e ∷ more)) ≡ None → stated_fields (members_view (es ++ e ∷ more)) ≡ None
stated_fields_none [] e more h = h
stated_fields_none (x ∷ es) e more h =
    none_under_name (is_plain (string_bytes x.0)) _ (none_second (field (string_bytes x.0)) (value_of (view x.1)) (stated_fields (members_view (es ++ e ∷ more))) (stated_fields_none es e more h))

-- a name that may not be a text
pub no_field_by_name : (e : Entry) (more : List Entry) → is_plain (string_bytes e.0) ≡ false → stated_fields (members_view (e ∷ more)) ≡ None
no_field_by_name e more h = rw h

-- a value that states none
pub no_field_by_value : (e : Entry) (more : List Entry) → value_of (view e.1) ≡ None → stated_fields (members_view (e ∷ more)) ≡ None
no_field_by_value e more h =
    none_under_name (is_plain (string_bytes e.0)) _ (none_first (field (string_bytes e.0)) (value_of (view e.1)) (stated_fields (members_view more)) h)

-- as many fields as members
pub field_count-stated : (ms : Members) (fs : FieldsData) → stated_fields ms ≡ Some fs → field_count fs ≡ members_len ms
field_count-stated Members.no_members fs e = let is : fs ≡ no_fields = cc in rw is
field_count-stated (Members.member k d ms) fs e =
    let p = fields_there k d ms fs e in
    rw p.5 (ap suc (field_count-stated ms p.1 p.4))

is_below-stated : (k : String Global) (es : List Entry) (fs : FieldsData) → AllByRecursion (λ y. string_cmp k y ≡ Less) (keys_of es) → stated_fields (members_view es) ≡ Some fs → is_below (string_bytes k) fs ≡ true
is_below-stated k [] fs up e = let is : fs ≡ no_fields = cc in rw is
is_below-stated k (x ∷ es) fs up e =
    let p = fields_there (string_bytes x.0) (view x.1) (members_view es) fs e in
    let here : is_lt (string_cmp k x.0) ≡ true = ap is_lt up.0 in
    rw (p.5, here) (is_below-stated k es p.1 up.1 p.4)

-- the fields of members in order ascend
pub is_ascending-stated : (es : List Entry) (fs : FieldsData) → IsStrictlySortedBy string_cmp (keys_of es) → stated_fields (members_view es) ≡ Some fs → is_ascending fs ≡ true
unfolding IsStrictlySortedBy
is_ascending-stated [] fs up e = let is : fs ≡ no_fields = cc in rw is
is_ascending-stated (x ∷ es) fs up e =
    let p = fields_there (string_bytes x.0) (view x.1) (members_view es) fs e in
    let here : is_below (string_bytes x.0) p.1 ≡ true = is_below-stated x.0 es p.1 up.0 p.4 in
    rw (p.5, here) (is_ascending-stated es p.1 up.1 p.4)
