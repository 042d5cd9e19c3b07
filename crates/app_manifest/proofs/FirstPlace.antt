-- The first place that passes a test, one element further at a time.
use Rattle.std.proofs.Common.{◌≡◌, ℕ, suc, ◌+◌, ◌<◌, Bool, true, false, cond, List, [], ◌∷◌, ◌++◌, Option, Some, None, length, get_or, take, drop, length-take, drop-cons, refl, sym, ap, ◌∙◌, arith}
use Rattle.std.proofs.lemmas.List.{take_more, take-append-drop}
use Rattle.app_manifest.specs.Places.{first_from}

pub not_here : {B : Type 0} (b : Bool) (x : B) (rest : Option B) → cond b (Some x) rest ≡ None → (b ≡ false) × (rest ≡ None)
not_here true x rest e = absurd (cc)
not_here false x rest e = (refl, e)

-- where no element passes, the search goes on behind them
pub first_from-append : {A : Type 0} (test : ℕ → A → Bool) (n : ℕ) (xs ys : List A) → first_from test n xs ≡ None → first_from test n (xs ++ ys) ≡ first_from test (n + length xs) ys
first_from-append test n [] ys e = ap (λ (m : ℕ). first_from test m ys) (let same : n ≡ n + 0 = omega arith in same)
first_from-append {A} test n (x ∷ xs) ys e =
    let here = not_here (test n x) n (first_from test (suc n) xs) e in
    let same : suc n + length xs ≡ n + length (x ∷ xs) = omega arith in
    rw here.0 (first_from-append test (suc n) xs ys here.1 ∙ ap (λ (m : ℕ). first_from test m ys) same)

-- one element more that doesn't pass
pub none_more : {A : Type 0} (test : ℕ → A → Bool) (xs : List A) (i : ℕ) (x : A) → i < length xs → x ≡ get_or xs i x → first_from test 0 (take i xs) ≡ None → test i x ≡ false → first_from test 0 (take (i + 1) xs) ≡ None
none_more {A} test xs i x within is e fails =
    let more : take (i + 1) xs ≡ take i xs ++ x ∷ [] = take_more xs i x within ∙ ap (λ (y : A). take i xs ++ y ∷ []) (sym is) in
    let at : 0 + length (take i xs) ≡ i = omega (arith, length-take i xs) in
    let last : first_from test i (x ∷ []) ≡ None = rw fails refl in
    ap (λ (ys : List A). first_from test 0 ys) more ∙ first_from-append test 0 (take i xs) (x ∷ []) e ∙ ap (λ (m : ℕ). first_from test m (x ∷ [])) at ∙ last

-- the first one that passes
pub first_here : {A : Type 0} (test : ℕ → A → Bool) (xs : List A) (i : ℕ) (x : A) → i < length xs → x ≡ get_or xs i x → first_from test 0 (take i xs) ≡ None → test i x ≡ true → first_from test 0 xs ≡ Some i
first_here {A} test xs i x within is e passes =
    let rest : drop i xs ≡ x ∷ drop (suc i) xs = drop-cons xs i x within ∙ ap (λ (y : A). y ∷ drop (suc i) xs) (sym is) in
    let at : 0 + length (take i xs) ≡ i = omega (arith, length-take i xs) in
    let here : first_from test i (x ∷ drop (suc i) xs) ≡ Some i = rw passes refl in
    ap (λ (ys : List A). first_from test 0 ys) (sym (take-append-drop i xs)) ∙ first_from-append test 0 (take i xs) (drop i xs) e ∙ ap (λ (m : ℕ). first_from test m (drop i xs)) at ∙ ap (λ (ys : List A). first_from test i ys) rest ∙ here
