-- What the values of a list state, one value more at a time.
use Rattle.std.proofs.Common.{◌≡◌, ℕ, zero, suc, ◌+◌, ◌<◌, List, [], ◌∷◌, ◌++◌, Option, Some, None, option_and_then, length, get_or, take, refl, sym, ap, ◌∙◌, arith}
use Rattle.std.proofs.lemmas.List.{take_more}
use Rattle.serde_json.specs.Data.{Data}
use Rattle.serde_json.specs.View.{view, items_view}
use Rattle.serde_json.specs.declared.value.Value.{Value}
use Rattle.app_manifest.specs.Fields.{each_of}

-- the first value's part and the others' parts
both_there : {A : Type 0} (o : Option A) (rest : Option (List A)) (xs : List A) → option_and_then (λ x. option_and_then (λ ys. Some (x ∷ ys)) rest) o ≡ Some xs → (x : A) × (ys : List A) × (o ≡ Some x) × (rest ≡ Some ys) × (xs ≡ x ∷ ys)
both_there None rest xs e = absurd (cc)
both_there (Some x) None xs e = absurd (cc)
both_there (Some x) (Some ys) xs e = (x, ys, refl, refl, cc)

each_of-push : {A : Type 0} (part : Data → Option A) (ds : List Value) (d : Value) (xs : List A) (x : A) → each_of part (items_view ds) ≡ Some xs → part (view d) ≡ Some x → each_of part (items_view (ds ++ d ∷ [])) ≡ Some (xs ++ x ∷ [])
each_of-push part [] d xs x e h = let is : xs ≡ [] = cc in rw (h, is)
each_of-push {A} part (y ∷ ds) d xs x e h =
    let p = both_there (part (view y)) (each_of part (items_view ds)) xs e in
    let last : each_of part (items_view (ds ++ d ∷ [])) ≡ Some (p.1 ++ x ∷ []) = each_of-push part ds d p.1 x p.3 h in
    ap (λ (o : Option A). option_and_then (λ z. option_and_then (λ ys. Some (z ∷ ys)) (each_of part (items_view (ds ++ d ∷ [])))) o) p.2
    ∙ ap (λ (o : Option (List A)). option_and_then (λ ys. Some (p.0 ∷ ys)) o) last
    ∙ ap (λ (us : List A). Some (us ++ x ∷ [])) (sym p.4)

-- one value more states its part
pub each_of_more : {A : Type 0} (part : Data → Option A) (ds : List Value) (i : ℕ) (d : Value) (xs : List A) (x : A) → i < length ds → d ≡ get_or ds i d → each_of part (items_view (take i ds)) ≡ Some xs → part (view d) ≡ Some x
    → each_of part (items_view (take (i + 1) ds)) ≡ Some (xs ++ x ∷ [])
each_of_more part ds i d xs x within is e h =
    let more : take (i + 1) ds ≡ take i ds ++ d ∷ [] = take_more ds i d within ∙ ap (λ (y : Value). take i ds ++ y ∷ []) (sym is) in
    rw more (each_of-push part (take i ds) d xs x e h)

none_behind : {A : Type 0} (o : Option A) (rest : Option (List A)) → rest ≡ None → option_and_then (λ x. option_and_then (λ ys. Some (x ∷ ys)) rest) o ≡ None
none_behind None rest e = refl
none_behind (Some x) rest e = rw e refl

-- a value that states no part, and then the list states nothing
pub each_of_none : {A : Type 0} (part : Data → Option A) (ds : List Value) (i : ℕ) (d : Value) → i < length ds → d ≡ get_or ds i d → part (view d) ≡ None → each_of part (items_view ds) ≡ None
each_of_none part [] i d within is h = absurd (omega arith)
each_of_none part (y ∷ ds) zero d within is h = rw (ap (λ (z : Value). part (view z)) (sym is) ∙ h) refl
each_of_none part (y ∷ ds) (suc i) d within is h =
    none_behind (part (view y)) (each_of part (items_view ds)) (each_of_none part ds i d (omega arith) is h)
