-- An insertion keeps the order.
use Rattle.std.proofs.Common.{◌≡◌, ◌≢◌, ℕ, Bool, true, false, ◌&&◌, ◌||◌, cond, eqb, ltb, List, [], ◌∷◌, All, Option, Some, None, refl, sym, arith}
use Rattle.std.specs.Cmp.{first_so, second_so}
use Rattle.std.specs.List.{list_all}
use Rattle.std.proofs.lemmas.Bool.Decides.{nat_tests}
use Rattle.std.proofs.lemmas.List.Elements.{All-cons, All-head, All-tail}
use Rattle.powerbox_match.specs.declared.value.Quality.{Quality}
use Rattle.powerbox_match.specs.declared.choices.Choice.{Choice}
use Rattle.powerbox_match.specs.Choices.{rank_of, stands_before, is_in_order, insertion, choices_after}

before_trans : (r n s m t k : ℕ) → (ltb r s || (eqb r s && ltb n m)) ≡ true → (ltb s t || (eqb s t && ltb m k)) ≡ true → (ltb r t || (eqb r t && ltb n k)) ≡ true
before_trans r n s m t k h g = grind (arith, nat_tests)

before_total : (r n s m : ℕ) → (ltb r s || (eqb r s && ltb n m)) ≡ false → n ≢ m → (ltb s r || (eqb s r && ltb m n)) ≡ true
before_total r n s m h other = grind (arith, nat_tests)

-- what stands before a choice stands before all that the choice stands before
stands_before-all : (c d : Choice) (ds : List Choice) → stands_before c d ≡ true → list_all (stands_before d) ds ≡ true → list_all (stands_before c) ds ≡ true
stands_before-all c d [] h k = refl
stands_before-all c d (e ∷ es) h k =
    let here : stands_before c e ≡ true = before_trans (rank_of c.quality) c.num (rank_of d.quality) d.num (rank_of e.quality) e.num h (first_so _ _ k) in
    rw here (stands_before-all c d es h (second_so _ _ k))

list_all-insertion_at : (b : Bool) (d c e : Choice) (es : List Choice) → stands_before d c ≡ true → list_all (stands_before d) (e ∷ es) ≡ true → list_all (stands_before d) (insertion c es) ≡ true
    → list_all (stands_before d) (cond b (c ∷ e ∷ es) (e ∷ insertion c es)) ≡ true
list_all-insertion_at true d c e es h k later = rw h k
list_all-insertion_at false d c e es h k later = let here : stands_before d e ≡ true = first_so _ _ k in rw here later

list_all-insertion : (d c : Choice) (ds : List Choice) → stands_before d c ≡ true → list_all (stands_before d) ds ≡ true → list_all (stands_before d) (insertion c ds) ≡ true
list_all-insertion d c [] h k = rw h
list_all-insertion d c (e ∷ es) h k = list_all-insertion_at (stands_before c e) d c e es h k (list_all-insertion d c es h (second_so _ _ k))

is_in_order-insertion_at : (b : Bool) (c d : Choice) (ds : List Choice) → stands_before c d ≡ b → d.num ≢ c.num → is_in_order (d ∷ ds) ≡ true → is_in_order (insertion c ds) ≡ true
    → is_in_order (cond b (c ∷ d ∷ ds) (d ∷ insertion c ds)) ≡ true
is_in_order-insertion_at true c d ds h other up later =
    let all : list_all (stands_before c) ds ≡ true = stands_before-all c d ds h (first_so _ _ up) in
    rw (h, all) up
is_in_order-insertion_at false c d ds h other up later =
    let apart : c.num ≢ d.num = λ e. other (sym e) in
    let above : stands_before d c ≡ true = before_total (rank_of c.quality) c.num (rank_of d.quality) d.num h apart in
    rw (list_all-insertion d c ds above (first_so _ _ up)) later

-- a list in order stays in order where a choice with a new number is put in its place
pub is_in_order-insertion : (c : Choice) (cs : List Choice) → All (λ d. d.num ≢ c.num) cs → is_in_order cs ≡ true → is_in_order (insertion c cs) ≡ true
is_in_order-insertion c [] other up = refl
is_in_order-insertion c (d ∷ ds) other up =
    is_in_order-insertion_at (stands_before c d) c d ds refl (All-head (λ (e : Choice). e.num ≢ c.num) d ds other) up
    (is_in_order-insertion c ds (All-tail (λ (e : Choice). e.num ≢ c.num) d ds other) (second_so _ _ up))

All-insertion_at : (P : Choice → Type 0) (b : Bool) (c d : Choice) (ds : List Choice) → P c → All P (d ∷ ds) → All P (insertion c ds) → All P (cond b (c ∷ d ∷ ds) (d ∷ insertion c ds))
All-insertion_at P true c d ds here all later = All-cons P c (d ∷ ds) here all
All-insertion_at P false c d ds here all later = All-cons P d (insertion c ds) (All-head P d ds all) later

-- what holds of a choice and of all in a list holds of all in the list with the choice in its place
pub All-insertion : (P : Choice → Type 0) (c : Choice) (cs : List Choice) → P c → All P cs → All P (insertion c cs)
All-insertion P c [] here all = All-cons P c [] here all
All-insertion P c (d ∷ ds) here all = All-insertion_at P (stands_before c d) c d ds here all (All-insertion P c ds here (All-tail P d ds all))

-- a number that isn't in a list isn't in the list after another number was added
pub All-choices_after : (n num : ℕ) (quality : Option Quality) (cs : List Choice) → num ≢ n → All (λ c. c.num ≢ n) cs → All (λ c. c.num ≢ n) (choices_after quality num cs)
All-choices_after n num None cs other all = all
All-choices_after n num (Some quality) cs other all = All-insertion (λ (c : Choice). c.num ≢ n) (record { num = num; quality = quality }) cs other all
