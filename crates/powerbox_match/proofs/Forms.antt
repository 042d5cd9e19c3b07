-- The form in which a value is compared: it matches as the value does, when its items are put in order too.
use Rattle.std.proofs.Common.{◌≡◌, ℕ, suc, ◌+◌, ◌<◌, Bool, true, false, not, ◌&&◌, ◌||◌, cond, leb, List, [], ◌∷◌, ◌++◌, Option, Some, None, length, get_or, take, refl, sym, ap, ◌∙◌}
use Rattle.std.specs.Cmp.{first_so, second_so}
use Rattle.std.specs.List.{list_any}
use Rattle.std.specs.List.Sorted.{IsPermutation}
use Rattle.std.specs.Str.{bytes_eq}
use Rattle.std.proofs.lemmas.List.{take_more}
use Rattle.std.proofs.lemmas.List.Recursion.{is_sum_by}
use Rattle.std.proofs.lemmas.List.Sorted.{list_any-IsPermutation, length_permutation, sum_by-IsPermutation}
use Rattle.powerbox_match.specs.declared.value.TagValue.{TagValue}
use Rattle.powerbox_match.specs.Value.{TagData, any, number, text, fields, items, FieldsData, no_fields, field, ItemsData, no_items, item, field_count, item_count, is_below, is_ascending, is_tidy, are_fields_tidy, are_items_tidy, tag_data, fields_data, items_data}
use Rattle.powerbox_match.specs.Matching.{get_field, value_matches, fields_match, items_match, any_item}
use Rattle.powerbox_match.specs.Comparisons.{weight, lists, fields_weight, fields_lists, items_weight, items_lists}
use Rattle.powerbox_match.specs.Sorted.{is_in_order, is_sorted, are_fields_sorted, are_items_sorted, MatchesAlike, IsSortedForm}
use Rattle.powerbox_match.specs.Steps.{AreForms, AreFieldForms}
use Rattle.powerbox_match.proofs.Merge.{is_met}
use Rattle.powerbox_match.proofs.Within.{item_count-length}
use Rattle.powerbox_match.proofs.Tidy.{Entry}

-- ---- one more of a list

pub AreForms-push : (ss vs : List TagValue) (s v : TagValue) → AreForms ss vs → IsSortedForm (tag_data s) (tag_data v) → AreForms (ss ++ s ∷ []) (vs ++ v ∷ [])
AreForms-push [] [] s v h k = (k, tt)
AreForms-push [] (w ∷ vs) s v h k = absurd h
AreForms-push (t ∷ ss) [] s v h k = absurd h
AreForms-push (t ∷ ss) (w ∷ vs) s v h k = (h.0, AreForms-push ss vs s v h.1 k)

pub AreFieldForms-push : (ss fs : List Entry) (s f : Entry) → AreFieldForms ss fs → s.0 ≡ f.0 → IsSortedForm (tag_data s.1) (tag_data f.1) → AreFieldForms (ss ++ s ∷ []) (fs ++ f ∷ [])
AreFieldForms-push [] [] s f h name k = (name, k, tt)
AreFieldForms-push [] (g ∷ fs) s f h name k = absurd h
AreFieldForms-push (t ∷ ss) [] s f h name k = absurd h
AreFieldForms-push (t ∷ ss) (g ∷ fs) s f h name k = (h.0, h.1, AreFieldForms-push ss fs s f h.2 name k)

-- ---- items in another order

not_or : (a b : Bool) → (a && not b) ≡ not (not a || b)
not_or true b = refl
not_or false b = refl

all_from_any : {X : Type 0} (F : List X → Bool) (p : X → Bool) → F [] ≡ true → ((x : X) (xs : List X) → F (x ∷ xs) ≡ (p x && F xs)) → (xs : List X) → F xs ≡ not (list_any (λ x. not (p x)) xs)
all_from_any F p empty step [] = empty
all_from_any F p empty step (x ∷ xs) =
    step x xs ∙ ap (λ b. p x && b) (all_from_any F p empty step xs) ∙ not_or (p x) (list_any (λ y. not (p y)) xs)

-- a test that each element passes doesn't depend on their order
all_permuted : {X : Type 0} (F : List X → Bool) (p : X → Bool) → F [] ≡ true → ((x : X) (xs : List X) → F (x ∷ xs) ≡ (p x && F xs)) → (xs ys : List X) → IsPermutation xs ys → F xs ≡ F ys
all_permuted F p empty step xs ys h =
    all_from_any F p empty step xs ∙ ap not (list_any-IsPermutation (λ x. not (p x)) xs ys h) ∙ sym (all_from_any F p empty step ys)

any_item-list_any : (u : TagData) (ws : List TagValue) → any_item (λ w. value_matches u w) (items_data ws) ≡ list_any (λ w. value_matches u (tag_data w)) ws
any_item-list_any u [] = refl
any_item-list_any u (w ∷ ws) = ap (λ b. value_matches u (tag_data w) || b) (any_item-list_any u ws)

any_item_permuted : (u : TagData) (vs ws : List TagValue) → IsPermutation vs ws → any_item (λ w. value_matches u w) (items_data vs) ≡ any_item (λ w. value_matches u w) (items_data ws)
any_item_permuted u vs ws h =
    any_item-list_any u vs ∙ list_any-IsPermutation (λ w. value_matches u (tag_data w)) vs ws h ∙ sym (any_item-list_any u ws)

given_permuted : (us : ItemsData) (vs ws : List TagValue) → IsPermutation vs ws → items_match us (items_data vs) ≡ items_match us (items_data ws)
given_permuted no_items vs ws h = refl
given_permuted (item u us) vs ws h =
    let here = any_item_permuted u vs ws h in
    let later = given_permuted us vs ws h in
    rw (here, later)

wanted_permuted : (us : ItemsData) (vs ws : List TagValue) → IsPermutation vs ws → items_match (items_data vs) us ≡ items_match (items_data ws) us
wanted_permuted us =
    all_permuted (λ vs. items_match (items_data vs) us) (λ v. any_item (λ w. value_matches (tag_data v) w) us) refl (λ _ _. refl)

-- ---- items that match alike

any_item_alike : (a b : TagData) (us : ItemsData) → MatchesAlike a b → any_item (λ w. value_matches a w) us ≡ any_item (λ w. value_matches b w) us
any_item_alike a b no_items h = refl
any_item_alike a b (item u us) h = rw ((h u).0, any_item_alike a b us h)

wanted_alike : (us : ItemsData) (ss vs : List TagValue) → AreForms ss vs → items_match (items_data ss) us ≡ items_match (items_data vs) us
wanted_alike us [] [] h = refl
wanted_alike us [] (v ∷ vs) h = absurd h
wanted_alike us (s ∷ ss) [] h = absurd h
wanted_alike us (s ∷ ss) (v ∷ vs) h =
    let here = any_item_alike (tag_data s) (tag_data v) us h.0.alike in
    let later = wanted_alike us ss vs h.1 in
    rw (here, later)

any_item_of_alike : (u : TagData) (ss vs : List TagValue) → AreForms ss vs → any_item (λ w. value_matches u w) (items_data ss) ≡ any_item (λ w. value_matches u w) (items_data vs)
any_item_of_alike u [] [] h = refl
any_item_of_alike u [] (v ∷ vs) h = absurd h
any_item_of_alike u (s ∷ ss) [] h = absurd h
any_item_of_alike u (s ∷ ss) (v ∷ vs) h = rw ((h.0.alike u).1, any_item_of_alike u ss vs h.1)

given_alike : (us : ItemsData) (ss vs : List TagValue) → AreForms ss vs → items_match us (items_data ss) ≡ items_match us (items_data vs)
given_alike no_items ss vs h = refl
given_alike (item u us) ss vs h =
    let here = any_item_of_alike u ss vs h in
    let later = given_alike us ss vs h in
    rw (here, later)

-- lists of items that match alike as a query and as an offer
items_alike : (vs ws : ItemsData) → ((us : ItemsData) → items_match vs us ≡ items_match ws us) → ((us : ItemsData) → items_match us vs ≡ items_match us ws) → MatchesAlike (items vs) (items ws)
items_alike vs ws wanted given any = (refl, refl)
items_alike vs ws wanted given (number n) = (refl, refl)
items_alike vs ws wanted given (text t) = (refl, refl)
items_alike vs ws wanted given (fields fs) = (refl, refl)
items_alike vs ws wanted given (items us) = (wanted us, given us)

-- ---- the form of a list of items

count_of_forms : (ss vs : List TagValue) → AreForms ss vs → length ss ≡ length vs
count_of_forms [] [] h = refl
count_of_forms [] (v ∷ vs) h = absurd h
count_of_forms (s ∷ ss) [] h = absurd h
count_of_forms (s ∷ ss) (v ∷ vs) h = ap suc (count_of_forms ss vs h.1)

forms_tidy : (ss vs : List TagValue) → AreForms ss vs → are_items_tidy (items_data ss) ≡ true
forms_tidy [] [] h = refl
forms_tidy [] (v ∷ vs) h = refl
forms_tidy (s ∷ ss) [] h = absurd h
forms_tidy (s ∷ ss) (v ∷ vs) h = rw h.0.tidy (forms_tidy ss vs h.1)

forms_sorted : (ss vs : List TagValue) → AreForms ss vs → are_items_sorted (items_data ss) ≡ true
forms_sorted [] [] h = refl
forms_sorted [] (v ∷ vs) h = refl
forms_sorted (s ∷ ss) [] h = absurd h
forms_sorted (s ∷ ss) (v ∷ vs) h = rw h.0.sorted (forms_sorted ss vs h.1)

forms_weight : (ss vs : List TagValue) → AreForms ss vs → items_weight (items_data ss) ≡ items_weight (items_data vs)
forms_weight [] [] h = refl
forms_weight [] (v ∷ vs) h = absurd h
forms_weight (s ∷ ss) [] h = absurd h
forms_weight (s ∷ ss) (v ∷ vs) h = rw (h.0.weight, forms_weight ss vs h.1) refl

forms_lists : (ss vs : List TagValue) → AreForms ss vs → items_lists (items_data ss) ≡ items_lists (items_data vs)
forms_lists [] [] h = refl
forms_lists [] (v ∷ vs) h = absurd h
forms_lists (s ∷ ss) [] h = absurd h
forms_lists (s ∷ ss) (v ∷ vs) h = rw (h.0.lists, forms_lists ss vs h.1) refl

-- a sum over a list doesn't depend on the order
sum_permuted : {X : Type 0} (F : List X → ℕ) (f : X → ℕ) → F [] ≡ 0 → ((x : X) (xs : List X) → F (x ∷ xs) ≡ f x + F xs) → (xs ys : List X) → IsPermutation xs ys → F ys ≡ F xs
sum_permuted F f empty step xs ys h =
    is_sum_by F f empty step ys ∙ sum_by-IsPermutation f xs ys h ∙ sym (is_sum_by F f empty step xs)

-- forms of a list's items, put in order
pub form_of_items : (vs ss os : List TagValue) → is_tidy (items (items_data vs)) ≡ true → AreForms ss vs → IsPermutation ss os → is_in_order (items_data os) ≡ true → IsSortedForm (items (items_data os)) (items (items_data vs))
form_of_items vs ss os few h same order =
    let count : item_count (items_data os) ≡ item_count (items_data vs) =
    item_count-length os ∙ length_permutation ss os same ∙ count_of_forms ss vs h ∙ sym (item_count-length vs) in
    let short : leb (item_count (items_data os)) 1000 ≡ true = ap (λ n. leb n 1000) count ∙ first_so _ _ few in
    let tidy : are_items_tidy (items_data os) ≡ true = sym (all_permuted (λ xs. are_items_tidy (items_data xs)) (λ x. is_tidy (tag_data x)) refl (λ _ _. refl) ss os same) ∙ forms_tidy ss vs h in
    let inside : are_items_sorted (items_data os) ≡ true = sym (all_permuted (λ xs. are_items_sorted (items_data xs)) (λ x. is_sorted (tag_data x)) refl (λ _ _. refl) ss os same) ∙ forms_sorted ss vs h in
    record {
      alike = items_alike (items_data os) (items_data vs) (λ us. sym (wanted_permuted us ss os same) ∙ wanted_alike us ss vs h) (λ us. sym (given_permuted us ss os same) ∙ given_alike us ss vs h);
      tidy = rw (short, tidy);
      sorted = rw (order, inside);
      weight = ap suc (sum_permuted (λ xs. items_weight (items_data xs)) (λ x. weight (tag_data x)) refl (λ _ _. refl) ss os same ∙ forms_weight ss vs h);
      lists = ap suc (sum_permuted (λ xs. items_lists (items_data xs)) (λ x. lists (tag_data x)) refl (λ _ _. refl) ss os same ∙ forms_lists ss vs h);
    }

-- ---- the form of fields

fields_wanted_alike : (gs : FieldsData) (ss fs : List Entry) → AreFieldForms ss fs → fields_match (fields_data ss) gs ≡ fields_match (fields_data fs) gs
fields_wanted_alike gs [] [] h = refl
fields_wanted_alike gs [] (f ∷ fs) h = absurd h
fields_wanted_alike gs (s ∷ ss) [] h = absurd h
fields_wanted_alike gs (s ∷ ss) (f ∷ fs) h =
    let here : is_met (tag_data s.1) (get_field s.0 gs) ≡ is_met (tag_data f.1) (get_field f.0 gs) = met_alike (tag_data s.1) (tag_data f.1) (get_field s.0 gs) h.1.alike ∙ ap (λ n. is_met (tag_data f.1) (get_field n gs)) h.0 in
    let later = fields_wanted_alike gs ss fs h.2 in
    rw (here, later)
  where
    met_alike : (a b : TagData) (o : Option TagData) → MatchesAlike a b → is_met a o ≡ is_met b o
    met_alike a b None k = refl
    met_alike a b (Some w) k = (k w).0

met_by_alike : (u : TagData) (name : List ℕ) (ss fs : List Entry) → AreFieldForms ss fs → is_met u (get_field name (fields_data ss)) ≡ is_met u (get_field name (fields_data fs))
met_by_alike u name [] [] h = refl
met_by_alike u name [] (f ∷ fs) h = absurd h
met_by_alike u name (s ∷ ss) [] h = absurd h
met_by_alike u name (s ∷ ss) (f ∷ fs) h =
    first_or_later (bytes_eq name s.0) (get_field name (fields_data ss)) (get_field name (fields_data fs)) (h.1.alike u).1 (met_by_alike u name ss fs h.2)
    ∙ ap (λ n. is_met u (cond (bytes_eq name n) (Some (tag_data f.1)) (get_field name (fields_data fs)))) h.0
  where
    first_or_later : (b : Bool) (o p : Option TagData) → value_matches u (tag_data s.1) ≡ value_matches u (tag_data f.1) → is_met u o ≡ is_met u p → is_met u (cond b (Some (tag_data s.1)) o) ≡ is_met u (cond b (Some (tag_data f.1)) p)
    first_or_later true o p here later = here
    first_or_later false o p here later = later

fields_given_alike : (gs : FieldsData) (ss fs : List Entry) → AreFieldForms ss fs → fields_match gs (fields_data ss) ≡ fields_match gs (fields_data fs)
fields_given_alike no_fields ss fs h = refl
fields_given_alike (field name v gs) ss fs h =
    let here : is_met v (get_field name (fields_data ss)) ≡ is_met v (get_field name (fields_data fs)) = met_by_alike v name ss fs h in
    let later = fields_given_alike gs ss fs h in
    rw (here, later)

fields_alike : (fs gs : FieldsData) → ((hs : FieldsData) → fields_match fs hs ≡ fields_match gs hs) → ((hs : FieldsData) → fields_match hs fs ≡ fields_match hs gs) → MatchesAlike (fields fs) (fields gs)
fields_alike fs gs wanted given any = (refl, refl)
fields_alike fs gs wanted given (number n) = (refl, refl)
fields_alike fs gs wanted given (text t) = (refl, refl)
fields_alike fs gs wanted given (fields hs) = (wanted hs, given hs)
fields_alike fs gs wanted given (items us) = (refl, refl)

count_of_fields : (ss fs : List Entry) → AreFieldForms ss fs → field_count (fields_data ss) ≡ field_count (fields_data fs)
count_of_fields [] [] h = refl
count_of_fields [] (f ∷ fs) h = absurd h
count_of_fields (s ∷ ss) [] h = absurd h
count_of_fields (s ∷ ss) (f ∷ fs) h = ap suc (count_of_fields ss fs h.2)

below_as : (name : List ℕ) (ss fs : List Entry) → AreFieldForms ss fs → is_below name (fields_data ss) ≡ is_below name (fields_data fs)
below_as name [] [] h = refl
below_as name [] (f ∷ fs) h = absurd h
below_as name (s ∷ ss) [] h = absurd h
below_as name (s ∷ ss) (f ∷ fs) h = let later = below_as name ss fs h.2 in rw (h.0, later)

ascending_as : (ss fs : List Entry) → AreFieldForms ss fs → is_ascending (fields_data ss) ≡ is_ascending (fields_data fs)
ascending_as [] [] h = refl
ascending_as [] (f ∷ fs) h = absurd h
ascending_as (s ∷ ss) [] h = absurd h
ascending_as (s ∷ ss) (f ∷ fs) h =
    let here : is_below s.0 (fields_data ss) ≡ is_below f.0 (fields_data fs) = below_as s.0 ss fs h.2 ∙ ap (λ n. is_below n (fields_data fs)) h.0 in
    let later = ascending_as ss fs h.2 in
    rw (here, later)

field_forms_tidy : (ss fs : List Entry) → AreFieldForms ss fs → are_fields_tidy (fields_data ss) ≡ true
field_forms_tidy [] [] h = refl
field_forms_tidy [] (f ∷ fs) h = refl
field_forms_tidy (s ∷ ss) [] h = absurd h
field_forms_tidy (s ∷ ss) (f ∷ fs) h = rw h.1.tidy (field_forms_tidy ss fs h.2)

field_forms_sorted : (ss fs : List Entry) → AreFieldForms ss fs → are_fields_sorted (fields_data ss) ≡ true
field_forms_sorted [] [] h = refl
field_forms_sorted [] (f ∷ fs) h = refl
field_forms_sorted (s ∷ ss) [] h = absurd h
field_forms_sorted (s ∷ ss) (f ∷ fs) h = rw h.1.sorted (field_forms_sorted ss fs h.2)

field_forms_weight : (ss fs : List Entry) → AreFieldForms ss fs → fields_weight (fields_data ss) ≡ fields_weight (fields_data fs)
field_forms_weight [] [] h = refl
field_forms_weight [] (f ∷ fs) h = absurd h
field_forms_weight (s ∷ ss) [] h = absurd h
field_forms_weight (s ∷ ss) (f ∷ fs) h = rw (h.1.weight, field_forms_weight ss fs h.2) refl

field_forms_lists : (ss fs : List Entry) → AreFieldForms ss fs → fields_lists (fields_data ss) ≡ fields_lists (fields_data fs)
field_forms_lists [] [] h = refl
field_forms_lists [] (f ∷ fs) h = absurd h
field_forms_lists (s ∷ ss) [] h = absurd h
field_forms_lists (s ∷ ss) (f ∷ fs) h = rw (h.1.lists, field_forms_lists ss fs h.2) refl

-- forms of a list's fields
pub form_of_fields : (fs ss : List Entry) → is_tidy (fields (fields_data fs)) ≡ true → AreFieldForms ss fs → IsSortedForm (fields (fields_data ss)) (fields (fields_data fs))
form_of_fields fs ss few h =
    let formed : (leb (field_count (fields_data fs)) 1000 && is_ascending (fields_data fs)) ≡ true = first_so _ _ few in
    let short : leb (field_count (fields_data ss)) 1000 ≡ true = ap (λ n. leb n 1000) (count_of_fields ss fs h) ∙ first_so _ _ formed in
    let up : is_ascending (fields_data ss) ≡ true = ascending_as ss fs h ∙ second_so _ _ formed in
    let tidy = field_forms_tidy ss fs h in
    let inside = field_forms_sorted ss fs h in
    record {
      alike = fields_alike (fields_data ss) (fields_data fs) (λ hs. fields_wanted_alike hs ss fs h) (λ hs. fields_given_alike hs ss fs h);
      tidy = rw (short, up, tidy);
      sorted = rw (up, inside);
      weight = ap suc (field_forms_weight ss fs h);
      lists = ap suc (field_forms_lists ss fs h);
    }

-- ---- one more in a loop over a list

pub AreForms_more : (vs : List TagValue) (i : ℕ) (v : TagValue) (ss : List TagValue) (s : TagValue) → i < length vs → v ≡ get_or vs i v → AreForms ss (take i vs) → IsSortedForm (tag_data s) (tag_data v) → AreForms (ss ++ s ∷ []) (take (i + 1) vs)
AreForms_more vs i v ss s within is h k =
    let more : take (i + 1) vs ≡ take i vs ++ v ∷ [] = take_more vs i v within ∙ ap (λ (x : TagValue). take i vs ++ x ∷ []) (sym is) in
    rw more (AreForms-push ss (take i vs) s v h k)

pub AreFieldForms_more : (fs : List Entry) (i : ℕ) (f : Entry) (ss : List Entry) (s : Entry) → i < length fs → f ≡ get_or fs i f → AreFieldForms ss (take i fs) → s.0 ≡ f.0 → IsSortedForm (tag_data s.1) (tag_data f.1) → AreFieldForms (ss ++ s ∷ []) (take (i + 1) fs)
AreFieldForms_more fs i f ss s within is h name k =
    let more : take (i + 1) fs ≡ take i fs ++ f ∷ [] = take_more fs i f within ∙ ap (λ (x : Entry). take i fs ++ x ∷ []) (sym is) in
    rw more (AreFieldForms-push ss (take i fs) s f h name k)
