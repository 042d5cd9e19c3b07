-- The strongest quality among pairs, one more of a query's descriptors at a time.
use Rattle.std.proofs.Common.{◌≡◌, ℕ, zero, suc, ◌+◌, ◌<◌, Bool, true, false, ◌||◌, cond, List, [], ◌∷◌, ◌++◌, Option, Some, None, length, get_or, take, refl, sym, ap, ◌∙◌}
use Rattle.std.specs.List.{list_any}
use Rattle.std.proofs.lemmas.List.{take_more}
use Rattle.std.proofs.lemmas.List.Recursion.{or_push}
use Rattle.powerbox_match.specs.declared.descriptor.Descriptor.{Descriptor}
use Rattle.powerbox_match.specs.declared.value.Quality.{Quality}
use Rattle.powerbox_match.specs.declared.value.Quality.TheVariants.{Acceptable, Preferred, Unacceptable}
use Rattle.powerbox_match.specs.Descriptor.{DescriptorData}
use Rattle.powerbox_match.specs.Matching.{matches_with, some_match}
use Rattle.powerbox_match.specs.Steps.{strongest, stronger, is_unacceptable}

-- the strongest, by which qualities occur
abbrev pick : Bool → Bool → Bool → Option Quality
pick a b c = cond a (Some Unacceptable) (cond b (Some Preferred) (cond c (Some Acceptable) None))

pick-or : (a b c d e f : Bool) → pick (a || d) (b || e) (c || f) ≡ stronger (pick a b c) (pick d e f)
pick-or true b c true e f = refl
pick-or true b c false true f = refl
pick-or true b c false false true = refl
pick-or true b c false false false = refl
pick-or false true c true e f = refl
pick-or false true c false true f = refl
pick-or false true c false false true = refl
pick-or false true c false false false = refl
pick-or false false true true e f = refl
pick-or false false true false true f = refl
pick-or false false true false false true = refl
pick-or false false true false false false = refl
pick-or false false false d e f = refl

some_match_more : (quality : Quality) (offers : List DescriptorData) (xs : List Descriptor) (i : ℕ) (x : Descriptor) → i < length xs → x ≡ get_or xs i x
    → some_match quality (take (i + 1) xs) offers ≡ (some_match quality (take i xs) offers || matches_with quality x offers)
some_match_more quality offers xs i x within is =
    let F : List Descriptor → Bool = λ ys. some_match quality ys offers in
    ap F (take_more xs i x within ∙ ap (λ (y : Descriptor). take i xs ++ y ∷ []) (sym is)) ∙ or_push F (λ y. matches_with quality y offers) refl (λ _ _. refl) (take i xs) x

-- the strongest quality with one more descriptor is the stronger of that so far and of the descriptor's own
pub strongest_more : (offers : List DescriptorData) (xs : List Descriptor) (i : ℕ) (x : Descriptor) → i < length xs → x ≡ get_or xs i x
    → strongest (λ q. some_match q (take (i + 1) xs) offers) ≡ stronger (strongest (λ q. some_match q (take i xs) offers)) (strongest (λ q. matches_with q x offers))
strongest_more offers xs i x within is =
    rw (some_match_more Unacceptable offers xs i x within is, some_match_more Preferred offers xs i x within is, some_match_more Acceptable offers xs i x within is)
    (pick-or (some_match Unacceptable (take i xs) offers) (some_match Preferred (take i xs) offers) (some_match Acceptable (take i xs) offers)
    (matches_with Unacceptable x offers) (matches_with Preferred x offers) (matches_with Acceptable x offers))

-- ---- where nothing stronger can come

unacceptable_first : (a b c : Bool) → is_unacceptable (pick a b c) ≡ true → a ≡ true
unacceptable_first true b c h = refl
unacceptable_first false true c h = absurd (cc)
unacceptable_first false false true h = absurd (cc)
unacceptable_first false false false h = absurd (cc)

later_too : (a b c : Bool) → (b ≡ true → c ≡ true) → (a || b) ≡ true → (a || c) ≡ true
later_too true b c h k = refl
later_too false b c h k = h k

list_any-take : {X : Type 0} (p : X → Bool) (xs : List X) (i : ℕ) → list_any p (take i xs) ≡ true → list_any p xs ≡ true
list_any-take p [] zero h = h
list_any-take p [] (suc i) h = h
list_any-take p (x ∷ xs) zero h = absurd (cc)
list_any-take p (x ∷ xs) (suc i) h =
    later_too (p x) (list_any p (take i xs)) (list_any p xs) (list_any-take p xs i) h

-- what the first elements make unacceptable stays so
pub unacceptable_stays : {X : Type 0} (p : Quality → X → Bool) (xs : List X) (i : ℕ) (found : Option Quality) → found ≡ strongest (λ q. list_any (p q) (take i xs)) → is_unacceptable found ≡ true → found ≡ strongest (λ q. list_any (p q) xs)
unacceptable_stays p xs i found h k =
    let here : list_any (p Unacceptable) (take i xs) ≡ true = unacceptable_first _ _ _ (ap is_unacceptable (sym h) ∙ k) in
    let all : list_any (p Unacceptable) xs ≡ true = list_any-take (p Unacceptable) xs i here in
    h ∙ rw (here, all)
