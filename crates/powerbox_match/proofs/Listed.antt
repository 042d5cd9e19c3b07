-- What lists of JSON values state: tags and descriptors, one more at a time.
use Rattle.std.proofs.Common.{◌≡◌, ℕ, zero, suc, ◌+◌, ◌<◌, ◌≤◌, true, false, leb, ltb, List, [], ◌∷◌, ◌++◌, Some, None, Result, Ok, Err, length, get_or, take, refl, sym, ap, ◌∙◌, arith}
use Rattle.std.proofs.lemmas.Bool.Decides.{nat_tests}
use Rattle.std.proofs.lemmas.List.{take_more}
use Rattle.serde_json.specs.View.{view, items_view}
use Rattle.serde_json.specs.declared.value.Value.{Value}
use Rattle.serde_json.proofs.Views.{items_len-items_view}
use Rattle.powerbox_match.specs.declared.fault.ShapeFault.{ShapeFault}
use Rattle.powerbox_match.specs.declared.fault.ShapeFault.TheVariants.{BadShape, TooManyTags}
use Rattle.powerbox_match.specs.declared.descriptor.Descriptor.{Descriptor}
use Rattle.powerbox_match.specs.declared.descriptor.Tag.{Tag}
use Rattle.powerbox_match.specs.Value.{TagData}
use Rattle.powerbox_match.specs.Descriptor.{DescriptorData}
use Rattle.powerbox_match.specs.Shape.{map_both, tag_of, tags_of, deepest_value, tags_or_fault, descriptor_of, with_first, descriptors_of}
use Rattle.powerbox_match.proofs.Stated.{both_there, none_first, none_second}

-- ---- tags

tags_of-push : (ds : List Value) (d : Value) (ts : List (ℕ × TagData)) (t : ℕ × TagData) → tags_of (items_view ds) ≡ Some ts → tag_of (view d) ≡ Some t → tags_of (items_view (ds ++ d ∷ [])) ≡ Some (ts ++ t ∷ [])
tags_of-push [] d ts t e h = let is : ts ≡ [] = cc in rw (h, is)
tags_of-push (x ∷ ds) d ts t e h =
    let p = both_there (λ y ys. y ∷ ys) (tag_of (view x)) (tags_of (items_view ds)) ts e in
    let last : tags_of (items_view (ds ++ d ∷ [])) ≡ Some (p.1 ++ t ∷ []) = tags_of-push ds d p.1 t p.3 h in
    ap (λ o. map_both (λ y ys. y ∷ ys) o (tags_of (items_view (ds ++ d ∷ [])))) p.2 ∙ ap (λ o. map_both (λ y ys. y ∷ ys) (Some p.0) o) last ∙ ap (λ us. Some (us ++ t ∷ [])) (sym p.4)

-- one tag more is stated
pub tags_of_more : (ds : List Value) (i : ℕ) (d : Value) (ts : List Tag) (t : Tag) → i < length ds → d ≡ get_or ds i d → tags_of (items_view (take i ds)) ≡ Some ts → tag_of (view d) ≡ Some t
    → tags_of (items_view (take (i + 1) ds)) ≡ Some (ts ++ t ∷ [])
tags_of_more ds i d ts t within is e h =
    let more : take (i + 1) ds ≡ take i ds ++ d ∷ [] = take_more ds i d within ∙ ap (λ (x : Value). take i ds ++ x ∷ []) (sym is) in
    rw more (tags_of-push (take i ds) d ts t e h)

-- a value that states no tag, and then the list states none
pub tags_of_none : (ds : List Value) (i : ℕ) (d : Value) → i < length ds → d ≡ get_or ds i d → tag_of (view d) ≡ None → tags_of (items_view ds) ≡ None
tags_of_none [] i d within is h = absurd (omega arith)
tags_of_none (x ∷ ds) zero d within is h = none_first (λ y ys. y ∷ ys) (tag_of (view x)) (tags_of (items_view ds)) (ap (λ (y : Value). tag_of (view y)) (sym is) ∙ h)
tags_of_none (x ∷ ds) (suc i) d within is h = none_second (λ y ys. y ∷ ys) (tag_of (view x)) (tags_of (items_view ds)) (tags_of_none ds i d (omega arith) is h)

not_above : (n m : ℕ) → m ≤ n → ltb n m ≡ false
not_above n m h = grind (arith, nat_tests)

above : (n m : ℕ) → n < m → ltb n m ≡ true
above n m h = grind (arith, nat_tests)

pub at_most_from_leb : (n m : ℕ) → leb n m ≡ true → n ≤ m
at_most_from_leb n m h = grind (arith, nat_tests)

-- few values that are shallow have the tags that they state
pub tags_stated : (ds : List Value) (ts : List (ℕ × TagData)) → deepest_value (items_view ds) ≤ 16 → length ds ≤ 32 → tags_of (items_view ds) ≡ Some ts → tags_or_fault (Some (items_view ds)) ≡ Ok ts
tags_stated ds ts shallow few e =
    rw (not_above 16 (deepest_value (items_view ds)) shallow, items_len-items_view ds, not_above 32 (length ds) few, e)

-- few values that are shallow and state no tags
pub tags_bad : (ds : List Value) → deepest_value (items_view ds) ≤ 16 → length ds ≤ 32 → tags_of (items_view ds) ≡ None → tags_or_fault (Some (items_view ds)) ≡ Err (BadShape 1)
tags_bad ds shallow few e =
    rw (not_above 16 (deepest_value (items_view ds)) shallow, items_len-items_view ds, not_above 32 (length ds) few, e)

-- too many values that are shallow
pub tags_too_many : (ds : List Value) → deepest_value (items_view ds) ≤ 16 → 32 < length ds → tags_or_fault (Some (items_view ds)) ≡ Err TooManyTags
tags_too_many ds shallow many =
    rw (not_above 16 (deepest_value (items_view ds)) shallow, items_len-items_view ds, above 32 (length ds) many)

-- ---- descriptors

both_ok : (first : Result DescriptorData ShapeFault) (rest : Result (List DescriptorData) ShapeFault) (ds : List DescriptorData) → with_first first rest ≡ Ok ds
    → (x : DescriptorData) × (xs : List DescriptorData) × (first ≡ Ok x) × (rest ≡ Ok xs) × (ds ≡ x ∷ xs)
both_ok (Err fault) rest ds e = absurd (cc)
both_ok (Ok x) (Err fault) ds e = absurd (cc)
both_ok (Ok x) (Ok xs) ds e = (x, xs, refl, refl, cc)

descriptors_of-push : (ds : List Value) (d : Value) (xs : List DescriptorData) (x : DescriptorData) → descriptors_of (items_view ds) ≡ Ok xs → descriptor_of (view d) ≡ Ok x → descriptors_of (items_view (ds ++ d ∷ [])) ≡ Ok (xs ++ x ∷ [])
descriptors_of-push [] d xs x e h = let is : xs ≡ [] = cc in rw (h, is)
descriptors_of-push (y ∷ ds) d xs x e h =
    let p = both_ok (descriptor_of (view y)) (descriptors_of (items_view ds)) xs e in
    let last : descriptors_of (items_view (ds ++ d ∷ [])) ≡ Ok (p.1 ++ x ∷ []) = descriptors_of-push ds d p.1 x p.3 h in
    ap (λ r. with_first r (descriptors_of (items_view (ds ++ d ∷ [])))) p.2 ∙ ap (λ r. with_first (Ok p.0) r) last ∙ ap (λ us. Ok (us ++ x ∷ [])) (sym p.4)

-- one descriptor more is stated
pub descriptors_of_more : (ds : List Value) (i : ℕ) (d : Value) (xs : List Descriptor) (x : Descriptor) → i < length ds → d ≡ get_or ds i d → descriptors_of (items_view (take i ds)) ≡ Ok xs → descriptor_of (view d) ≡ Ok x
    → descriptors_of (items_view (take (i + 1) ds)) ≡ Ok (xs ++ x ∷ [])
descriptors_of_more ds i d xs x within is e h =
    let more : take (i + 1) ds ≡ take i ds ++ d ∷ [] = take_more ds i d within ∙ ap (λ (y : Value). take i ds ++ y ∷ []) (sym is) in
    rw more (descriptors_of-push (take i ds) d xs x e h)

-- the first value that states no descriptor, after some that do, has the fault of the list
pub descriptors_of_fault : (ds : List Value) (i : ℕ) (d : Value) (xs : List DescriptorData) (fault : ShapeFault) → i < length ds → d ≡ get_or ds i d → descriptors_of (items_view (take i ds)) ≡ Ok xs → descriptor_of (view d) ≡ Err fault
    → descriptors_of (items_view ds) ≡ Err fault
descriptors_of_fault [] i d xs fault within is e h = absurd (omega arith)
descriptors_of_fault (y ∷ ds) zero d xs fault within is e h = rw (ap (λ (z : Value). descriptor_of (view z)) (sym is) ∙ h)
descriptors_of_fault (y ∷ ds) (suc i) d xs fault within is e h =
    let p = both_ok (descriptor_of (view y)) (descriptors_of (items_view (take i ds))) xs e in
    rw (p.2, descriptors_of_fault ds i d p.1 fault (omega arith) is p.3 h)
