-- The walk over two ascending lists of fields.
use Rattle.std.proofs.Common.{◌≡◌, ℕ, ◌+◌, ◌<◌, length, get_or, drop, Bool, true, false, ◌&&◌, cond, List, [], ◌∷◌, Option, Some, None, Ordering, Less, Equal, Greater, nat_cmp, is_eq, refl, sym, ap, ◌∙◌}
use Rattle.std.specs.Cmp.{first_so, second_so}
use Rattle.std.specs.Cmp.Lexicographic.{slice_cmp}
use Rattle.std.specs.List.{slice_get}
use Rattle.std.specs.Option.{option_map_or}
use Rattle.std.specs.Ordering.{is_lt, ordering_reverse}
use Rattle.std.specs.Str.{bytes_eq}
use Rattle.std.proofs.lemmas.Cmp.{nat_list_cmp_total, nat_list_eq_equiv, tied_itself}
use Rattle.std.proofs.lemmas.List.{drop_more}
use Rattle.std.proofs.lemmas.Map.Text.{is_eq-slice_cmp}
use Rattle.powerbox_match.specs.Value.{TagData, FieldsData, no_fields, field, is_below, is_ascending, tag_data, fields_data}
use Rattle.powerbox_match.specs.Matching.{get_field, value_matches, fields_match}
use Rattle.powerbox_match.specs.Sorted.{is_sorted, are_fields_sorted}
use Rattle.powerbox_match.specs.Steps.{fields_not_below}
use Rattle.powerbox_match.proofs.Tidy.{Entry, is_ascending-drop}

-- ---- the order of names

less_from_is_lt : (o : Ordering) → is_lt o ≡ true → o ≡ Less
less_from_is_lt Less h = refl
less_from_is_lt Equal h = absurd (cc)
less_from_is_lt Greater h = absurd (cc)

not_lt_back : (o p : Ordering) → o ≡ ordering_reverse p → is_lt p ≡ true → is_lt o ≡ false
not_lt_back Less Less e h = absurd (cc)
not_lt_back Less Equal e h = absurd (cc)
not_lt_back Less Greater e h = absurd (cc)
not_lt_back Equal p e h = refl
not_lt_back Greater p e h = refl

not_below_itself : (n : List ℕ) → is_lt (slice_cmp nat_cmp n n) ≡ false
not_below_itself n = ap is_lt (tied_itself nat_list_cmp_total n)

not_below_back : (m n : List ℕ) → is_lt (slice_cmp nat_cmp m n) ≡ true → is_lt (slice_cmp nat_cmp n m) ≡ false
not_below_back m n h = not_lt_back _ _ (nat_list_cmp_total.antisymm n m) h

apart_at : (o p q : Ordering) → is_lt q ≡ true → is_lt p ≡ false → (o ≡ Equal → p ≡ q) → is_eq o ≡ false
apart_at Less p q h k f = refl
apart_at Equal p q h k f = absurd (let e = f refl in cc)
apart_at Greater p q h k f = refl

-- a name that isn't below a bound is none that is below it
apart : (n m bound : List ℕ) → is_lt (slice_cmp nat_cmp m bound) ≡ true → is_lt (slice_cmp nat_cmp n bound) ≡ false → bytes_eq n m ≡ false
apart n m bound h k = sym (is_eq-slice_cmp n m) ∙ apart_at _ _ _ h k (nat_list_cmp_total.congr n m bound)

below_trans : (l m n : List ℕ) → is_lt (slice_cmp nat_cmp l m) ≡ true → is_lt (slice_cmp nat_cmp m n) ≡ true → is_lt (slice_cmp nat_cmp l n) ≡ true
below_trans l m n h k = ap is_lt (nat_list_cmp_total.trans l m n (less_from_is_lt _ h) (less_from_is_lt _ k))

below_from_apart_at : (o : Ordering) → is_lt o ≡ false → is_eq o ≡ false → ordering_reverse o ≡ Less
below_from_apart_at Less h k = absurd (cc)
below_from_apart_at Equal h k = absurd (cc)
below_from_apart_at Greater h k = refl

-- a name that is neither below another nor equal to it is above it
below_from_apart : (m n : List ℕ) → is_lt (slice_cmp nat_cmp m n) ≡ false → bytes_eq m n ≡ false → is_lt (slice_cmp nat_cmp n m) ≡ true
below_from_apart m n h k = ap is_lt (nat_list_cmp_total.antisymm n m ∙ below_from_apart_at _ h (is_eq-slice_cmp m n ∙ k))

-- ---- below

pub is_below-trans : (m n : List ℕ) (fs : FieldsData) → is_lt (slice_cmp nat_cmp m n) ≡ true → is_below n fs ≡ true → is_below m fs ≡ true
is_below-trans m n no_fields h k = refl
is_below-trans m n (field l v fs) h k =
    rw (below_trans m n l h (first_so _ _ k)) (is_below-trans m n fs h (second_so _ _ k))

-- no field has a name that is below all of them
get_field-below : (n : List ℕ) (fs : FieldsData) → is_below n fs ≡ true → get_field n fs ≡ None
get_field-below n no_fields h = refl
get_field-below n (field l v fs) h =
    let other : bytes_eq n l ≡ false = sym (is_eq-slice_cmp n l) ∙ ap is_eq (less_from_is_lt _ (first_so _ _ h)) in
    rw other (get_field-below n fs (second_so _ _ h))

-- ---- the fields from a name on

get_field-fields_not_below_at : (b : Bool) (n k : List ℕ) (g : Entry) (gs : List Entry) → is_lt (slice_cmp nat_cmp g.0 k) ≡ b → is_lt (slice_cmp nat_cmp n k) ≡ false
    → get_field n (fields_data (fields_not_below k gs)) ≡ get_field n (fields_data gs) → get_field n (fields_data (cond b (fields_not_below k gs) (g ∷ gs))) ≡ get_field n (fields_data (g ∷ gs))
get_field-fields_not_below_at false n k g gs b h later = refl
get_field-fields_not_below_at true n k g gs b h later = rw (apart n g.0 k b h) later

-- a field is found among those from a name on, unless its name is below that name
get_field-fields_not_below : (n k : List ℕ) (gs : List Entry) → is_lt (slice_cmp nat_cmp n k) ≡ false → get_field n (fields_data (fields_not_below k gs)) ≡ get_field n (fields_data gs)
get_field-fields_not_below n k [] h = refl
get_field-fields_not_below n k (g ∷ gs) h = get_field-fields_not_below_at _ n k g gs refl h (get_field-fields_not_below n k gs h)

fields_match-fields_not_below : (k : List ℕ) (fs : FieldsData) (gs : List Entry) → is_below k fs ≡ true → fields_match fs (fields_data (fields_not_below k gs)) ≡ fields_match fs (fields_data gs)
fields_match-fields_not_below k no_fields gs h = refl
fields_match-fields_not_below k (field n v fs) gs h =
    let below : is_lt (slice_cmp nat_cmp k n) ≡ true = first_so _ _ h in
    let same : get_field n (fields_data (fields_not_below k gs)) ≡ get_field n (fields_data gs) = get_field-fields_not_below n k gs (not_below_back k n below) in
    let later : fields_match fs (fields_data (fields_not_below k gs)) ≡ fields_match fs (fields_data gs) = fields_match-fields_not_below k fs gs (second_so _ _ h) in
    rw (same, later)

is_ascending-fields_not_below_at : (b : Bool) (k : List ℕ) (g : Entry) (gs : List Entry) → is_ascending (fields_data (fields_not_below k gs)) ≡ true → is_ascending (fields_data (g ∷ gs)) ≡ true → is_ascending (fields_data (cond b (fields_not_below k gs) (g ∷ gs))) ≡ true
is_ascending-fields_not_below_at true k g gs later here = later
is_ascending-fields_not_below_at false k g gs later here = here

pub is_ascending-fields_not_below : (k : List ℕ) (gs : List Entry) → is_ascending (fields_data gs) ≡ true → is_ascending (fields_data (fields_not_below k gs)) ≡ true
is_ascending-fields_not_below k [] h = h
is_ascending-fields_not_below k (g ∷ gs) h = is_ascending-fields_not_below_at _ k g gs (is_ascending-fields_not_below k gs (second_so _ _ h)) h

are_fields_sorted-fields_not_below_at : (b : Bool) (k : List ℕ) (g : Entry) (gs : List Entry) → are_fields_sorted (fields_data (fields_not_below k gs)) ≡ true → are_fields_sorted (fields_data (g ∷ gs)) ≡ true → are_fields_sorted (fields_data (cond b (fields_not_below k gs) (g ∷ gs))) ≡ true
are_fields_sorted-fields_not_below_at true k g gs later here = later
are_fields_sorted-fields_not_below_at false k g gs later here = here

pub are_fields_sorted-fields_not_below : (k : List ℕ) (gs : List Entry) → are_fields_sorted (fields_data gs) ≡ true → are_fields_sorted (fields_data (fields_not_below k gs)) ≡ true
are_fields_sorted-fields_not_below k [] h = h
are_fields_sorted-fields_not_below k (g ∷ gs) h = are_fields_sorted-fields_not_below_at _ k g gs (are_fields_sorted-fields_not_below k gs (second_so _ _ h)) h

first_at : (b : Bool) (k : List ℕ) (g h : Entry) (gs : List Entry) → is_lt (slice_cmp nat_cmp g.0 k) ≡ b → (Some h ≡ slice_get (fields_not_below k gs) 0 → is_lt (slice_cmp nat_cmp h.0 k) ≡ false)
    → Some h ≡ slice_get (cond b (fields_not_below k gs) (g ∷ gs)) 0 → is_lt (slice_cmp nat_cmp h.0 k) ≡ false
first_at true k g h gs b later e = later e
first_at false k g h gs b later e = let same : h ≡ g = cc in rw same b

-- the first field from a name on isn't below it
first_not_below : (k : List ℕ) (gs : List Entry) (h : Entry) → Some h ≡ slice_get (fields_not_below k gs) 0 → is_lt (slice_cmp nat_cmp h.0 k) ≡ false
first_not_below k [] h e = absurd (cc)
first_not_below k (g ∷ gs) h e = first_at _ k g h gs refl (first_not_below k gs h) e

-- ---- one step of the walk

-- what a query's field asks of the offer's fields
abbrev pub is_met : TagData → Option TagData → Bool
is_met v given = option_map_or (λ w. value_matches v w) given true

-- a field is met, or not, by the fields from its name on, and then come the fields after it
fields_match_step : (x : Entry) (xs gs : List Entry) → is_ascending (fields_data (x ∷ xs)) ≡ true
    → fields_match (fields_data (x ∷ xs)) (fields_data gs) ≡ (is_met (tag_data x.1) (get_field x.0 (fields_data (fields_not_below x.0 gs))) && fields_match (fields_data xs) (fields_data (fields_not_below x.0 gs)))
fields_match_step x xs gs h =
    let same : get_field x.0 (fields_data (fields_not_below x.0 gs)) ≡ get_field x.0 (fields_data gs) = get_field-fields_not_below x.0 x.0 gs (not_below_itself x.0) in
    let later : fields_match (fields_data xs) (fields_data (fields_not_below x.0 gs)) ≡ fields_match (fields_data xs) (fields_data gs) = fields_match-fields_not_below x.0 (fields_data xs) gs (first_so _ _ h) in
    rw (same, later)

-- the same in a walk over the query's fields
pub fields_match_more : (ws : List Entry) (i : ℕ) (x : Entry) (gs : List Entry) (b : Bool) → i < length ws → x ≡ get_or ws i x → is_ascending (fields_data ws) ≡ true
    → is_met (tag_data x.1) (get_field x.0 (fields_data (fields_not_below x.0 gs))) ≡ b
    → fields_match (fields_data (drop i ws)) (fields_data gs) ≡ (b && fields_match (fields_data (drop (i + 1) ws)) (fields_data (fields_not_below x.0 gs)))
fields_match_more ws i x gs b within is up met =
    let here : drop i ws ≡ x ∷ drop (i + 1) ws = drop_more ws i x within ∙ ap (λ (y : Entry). y ∷ drop (i + 1) ws) (sym is) in
    let left : is_ascending (fields_data (x ∷ drop (i + 1) ws)) ≡ true = ap (λ (ys : List Entry). is_ascending (fields_data ys)) (sym here) ∙ is_ascending-drop i ws up in
    ap (λ (ys : List Entry). fields_match (fields_data ys) (fields_data gs)) here ∙ fields_match_step x (drop (i + 1) ws) gs left
    ∙ ap (λ (c : Bool). c && fields_match (fields_data (drop (i + 1) ws)) (fields_data (fields_not_below x.0 gs))) met

bytes_eq_back : (m n : List ℕ) (b : Bool) → bytes_eq m n ≡ b → bytes_eq n m ≡ b
bytes_eq_back m n b h = nat_list_eq_equiv.symm n m ∙ h

get_field_other_at : (k : List ℕ) (rest : List Entry) (h : Entry) → Some h ≡ slice_get rest 0 → bytes_eq h.0 k ≡ false → is_lt (slice_cmp nat_cmp h.0 k) ≡ false → is_ascending (fields_data rest) ≡ true
    → None ≡ get_field k (fields_data rest)
get_field_other_at k [] h e other below up = absurd (cc)
get_field_other_at k (g ∷ gs) h e other below up =
    let is : h ≡ g = cc in
    let here : bytes_eq k g.0 ≡ false = bytes_eq_back g.0 k false (ap (λ (x : Entry). bytes_eq x.0 k) (sym is) ∙ other) in
    let above : is_lt (slice_cmp nat_cmp k h.0) ≡ true = below_from_apart h.0 k below other in
    let lower : is_lt (slice_cmp nat_cmp k g.0) ≡ true = ap (λ (x : Entry). is_lt (slice_cmp nat_cmp k x.0)) (sym is) ∙ above in
    rw (here, get_field-below k (fields_data gs) (is_below-trans k g.0 (fields_data gs) lower (first_so _ _ up)))

-- where the first field left has another name, none has the name
pub get_field_other : (k : List ℕ) (rest : List Entry) (h : Entry) → fields_not_below k rest ≡ rest → Some h ≡ slice_get rest 0 → bytes_eq h.0 k ≡ false → is_ascending (fields_data rest) ≡ true
    → None ≡ get_field k (fields_data rest)
get_field_other k rest h from e other up =
    get_field_other_at k rest h e other (first_not_below k rest h (rw from e)) up

fields_not_below_again_at : (b : Bool) (k : List ℕ) (g : Entry) (gs : List Entry) → is_lt (slice_cmp nat_cmp g.0 k) ≡ b → fields_not_below k (fields_not_below k gs) ≡ fields_not_below k gs
    → fields_not_below k (cond b (fields_not_below k gs) (g ∷ gs)) ≡ cond b (fields_not_below k gs) (g ∷ gs)
fields_not_below_again_at true k g gs b later = later
fields_not_below_again_at false k g gs b later = rw b

-- the fields from a name on begin there
pub fields_not_below_again : (k : List ℕ) (gs : List Entry) → fields_not_below k (fields_not_below k gs) ≡ fields_not_below k gs
fields_not_below_again k [] = refl
fields_not_below_again k (g ∷ gs) = fields_not_below_again_at _ k g gs refl (fields_not_below_again k gs)

-- a field of a list that is sorted within is sorted
pub get_field_sorted : (k : List ℕ) (fs : FieldsData) (v : TagData) → Some v ≡ get_field k fs → are_fields_sorted fs ≡ true → is_sorted v ≡ true
get_field_sorted k no_fields v e h = absurd (cc)
get_field_sorted k (field l w fs) v e h = get_field_sorted_at (bytes_eq k l) v w (get_field k fs) e (first_so _ _ h) (λ f. get_field_sorted k fs v f (second_so _ _ h))
  where
    get_field_sorted_at : (b : Bool) (v w : TagData) (later : Option TagData) → Some v ≡ cond b (Some w) later → is_sorted w ≡ true → (Some v ≡ later → is_sorted v ≡ true) → is_sorted v ≡ true
    get_field_sorted_at true v w later e here there = let is : v ≡ w = cc in rw is here
    get_field_sorted_at false v w later e here there = there e
