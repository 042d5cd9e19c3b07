-- Lists whose entries stand for the same, one entry further at a time.
use Rattle.std.proofs.Common.{◌≡◌, ℕ, zero, suc, ◌+◌, ◌<◌, Bool, true, false, not, List, [], ◌∷◌, ◌++◌, map, length, get_or, take, refl, sym, ap, ◌∙◌, arith}
use Rattle.std.specs.Str.{bytes_eq}
use Rattle.std.proofs.lemmas.Slice.Eq.{bytes_eq-Decides}
use Rattle.std.proofs.lemmas.List.{length-map, map-append, take_more}
use Rattle.powerbox_match.specs.Value.{TagData, fields_of, items_of, tag_data, field_data, fields_data, items_data}
use Rattle.powerbox_match.specs.declared.value.TagValue.{TagValue}
use Rattle.powerbox_match.proofs.Tidy.{Entry}

-- ---- lists by what each entry stands for

one_more : {X D : Type 0} (f : X → D) (xs : List X) (i : ℕ) (x : X) → i < length xs → x ≡ get_or xs i x → map f (take (i + 1) xs) ≡ map f (take i xs) ++ f x ∷ []
one_more f xs i x within is =
    ap (λ ys. map f ys) (take_more xs i x within) ∙ ap (λ y. map f (take i xs ++ y ∷ [])) (sym is) ∙ map-append f (take i xs) (x ∷ [])

-- one entry further
pub same_more : {X D : Type 0} (f : X → D) (xs ys : List X) (i : ℕ) (x y : X) → i < length xs → i < length ys → x ≡ get_or xs i x → y ≡ get_or ys i y → f x ≡ f y → map f (take i xs) ≡ map f (take i ys)
    → map f (take (i + 1) xs) ≡ map f (take (i + 1) ys)
same_more f xs ys i x y within inside is also here before =
    one_more f xs i x within is ∙ ap (λ l. l ++ f x ∷ []) before ∙ ap (λ d. map f (take i ys) ++ d ∷ []) here ∙ sym (one_more f ys i y inside also)

-- the entries at one place
pub same_at : {X D : Type 0} (f : X → D) (xs ys : List X) (i : ℕ) (x y : X) → i < length xs → i < length ys → x ≡ get_or xs i x → y ≡ get_or ys i y → map f xs ≡ map f ys → f x ≡ f y
same_at f [] ys i x y within inside is also e = absurd (omega arith)
same_at f (a ∷ xs) [] i x y within inside is also e = absurd (omega arith)
same_at f (a ∷ xs) (b ∷ ys) zero x y within inside is also e = cc
same_at f (a ∷ xs) (b ∷ ys) (suc i) x y within inside is also e =
    let rest : map f xs ≡ map f ys = cc in same_at f xs ys i x y (omega arith) (omega arith) is also rest

-- how many there are
pub same_length : {X D : Type 0} (f : X → D) (xs ys : List X) → map f xs ≡ map f ys → length xs ≡ length ys
same_length f xs ys e = sym (length-map xs f) ∙ ap length e ∙ length-map ys f

-- ---- items and fields

-- the same items are of the same list
items_of-same : (xs ys : List TagData) → items_of xs ≡ items_of ys → xs ≡ ys
items_of-same [] [] e = refl
items_of-same [] (y ∷ ys) e = absurd (cc)
items_of-same (x ∷ xs) [] e = absurd (cc)
items_of-same (x ∷ xs) (y ∷ ys) e =
    let rest : items_of xs ≡ items_of ys = cc in
    let more = items_of-same xs ys rest in
    cc

-- the same fields are of the same list
fields_of-same : (xs ys : List (List ℕ × TagData)) → fields_of xs ≡ fields_of ys → xs ≡ ys
fields_of-same [] [] e = refl
fields_of-same [] (y ∷ ys) e = absurd (cc)
fields_of-same (x ∷ xs) [] e = absurd (cc)
fields_of-same (x ∷ xs) (y ∷ ys) e =
    let name : x.0 ≡ y.0 = cc in
    let value : x.1 ≡ y.1 = cc in
    let first : x ≡ y = ap (λ n. (n, x.1)) name ∙ ap (λ d. (y.0, d)) value in
    let rest : fields_of xs ≡ fields_of ys = cc in
    let more = fields_of-same xs ys rest in
    cc

-- lists of values that stand for the same, value by value
pub items_same : (vs ws : List TagValue) → items_data vs ≡ items_data ws → map tag_data vs ≡ map tag_data ws
items_same vs ws e = items_of-same (map tag_data vs) (map tag_data ws) e

-- lists of fields that stand for the same, field by field
pub fields_same : (fs gs : List Entry) → fields_data fs ≡ fields_data gs → map field_data fs ≡ map field_data gs
fields_same fs gs e = fields_of-same (map field_data fs) (map field_data gs) e

-- ---- one field

not_so : (b : Bool) → not b ≡ false → b ≡ true
not_so true e = refl
not_so false e = absurd (cc)

-- names that do not differ
names_same : (m n : List ℕ) → not (bytes_eq m n) ≡ false → m ≡ n
names_same m n e = (bytes_eq-Decides m n).0 (not_so (bytes_eq m n) e)

-- fields that stand for the same have one name
pub one_name : (f g : Entry) → field_data f ≡ field_data g → not (bytes_eq f.0 g.0) ≡ false
one_name f g e =
    let name : f.0 ≡ g.0 = ap (λ (d : List ℕ × TagData). d.0) e in
    ap not ((bytes_eq-Decides f.0 g.0).1 name)

-- fields of one name whose values stand for the same
pub field_same : (f g : Entry) → not (bytes_eq f.0 g.0) ≡ false → tag_data f.1 ≡ tag_data g.1 → field_data f ≡ field_data g
field_same f g name value =
    ap (λ n. (n, tag_data f.1)) (names_same f.0 g.0 name) ∙ ap (λ d. (g.0, d)) value
