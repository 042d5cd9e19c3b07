-- What is written of each kind of value fits, where the value is tidy.
use Rattle.std.proofs.Common.{◌≡◌, ℕ, zero, suc, ◌-◌, ◌<◌, ◌≤◌, ◌&&◌, true, leb, List, [], ◌∷◌, length, Option, Some, None, refl, sym, ap, subst, arith}
use Rattle.std.specs.Prelude.{ℤ, option_map}
use Rattle.std.proofs.lemmas.Bool.{leb-true, and_parts}
use Rattle.powerbox_match.specs.Value.{TagData, any, number, text, fields, items, fields_of, items_of, is_tidy, is_below, is_ascending, are_fields_tidy, are_items_tidy, field_count, item_count}
use Rattle.row_formats.specs.Format.{Format, AllFit, chain, list, integer, is_above, text as name}
use Rattle.row_formats.proofs.Fits.{count_fits}
use Rattle.row_codec.specs.ValueFormat.{entry, value}
use Rattle.row_codec.specs.ValueExact.{fields_back, items_back}
use Rattle.row_codec.proofs.ValuesRead.{Follow, field_count_is, item_count_is}

pub fit_any : (depth : ℕ) (d : TagData) → d ≡ any → 0 < depth → (value depth).fits d
unfolding value
fit_any zero d is lt = absurd (omega arith)
fit_any (suc depth) d is lt = subst (λ (e : TagData). (value (suc depth)).fits e) (sym is) refl

pub fit_number : (depth : ℕ) (d : TagData) (n : ℤ) → d ≡ number n → 0 < depth → integer.fits n → (value depth).fits d
unfolding value
fit_number zero d n is lt h = absurd (omega arith)
fit_number (suc depth) d n is lt h = subst (λ (e : TagData). (value (suc depth)).fits e) (sym is) (h, refl)

pub fit_text : (depth : ℕ) (d : TagData) (t : List ℕ) → d ≡ text t → 0 < depth → name.fits t → (value depth).fits d
unfolding value
fit_text zero d t is lt h = absurd (omega arith)
fit_text (suc depth) d t is lt h = subst (λ (e : TagData). (value (suc depth)).fits e) (sym is) (h, refl)

pub fit_fields : (depth : ℕ) (d : TagData) (fs : List (List ℕ × TagData)) → d ≡ fields (fields_of fs) → 0 < depth → (chain 1000 (entry (value (depth - 1)))).fits fs → (value depth).fits d
unfolding value
fit_fields zero d fs is lt h = absurd (omega arith)
fit_fields (suc depth) d fs is lt h =
    let k : suc depth - 1 ≡ depth = omega arith in
    let inner : (chain 1000 (entry (value depth))).fits fs = subst (λ (n : ℕ). (chain 1000 (entry (value n))).fits fs) k h in
    subst (λ (e : TagData). (value (suc depth)).fits e) (sym is)
    (subst (λ (gs : List (List ℕ × TagData)). (chain 1000 (entry (value depth))).fits gs) (sym (fields_back fs)) inner, ap (λ (gs : List (List ℕ × TagData)). fields (fields_of gs)) (fields_back fs))

pub fit_items : (depth : ℕ) (d : TagData) (vs : List TagData) → d ≡ items (items_of vs) → 0 < depth → (list 1000 (value (depth - 1))).fits vs → (value depth).fits d
unfolding value
fit_items zero d vs is lt h = absurd (omega arith)
fit_items (suc depth) d vs is lt h =
    let k : suc depth - 1 ≡ depth = omega arith in
    let inner : (list 1000 (value depth)).fits vs = subst (λ (n : ℕ). (list 1000 (value n)).fits vs) k h in
    subst (λ (e : TagData). (value (suc depth)).fits e) (sym is)
    (subst (λ (ws : List TagData). (list 1000 (value depth)).fits ws) (sym (items_back vs)) inner, ap (λ (ws : List TagData). items (items_of ws)) (items_back vs))

-- ---- lists of values

above_last : (last : Option (List ℕ × TagData)) (f : List ℕ × TagData) (fs : List (List ℕ × TagData)) → Follow last (f ∷ fs) → is_above (option_map (λ g. g.0) last) f.0 ≡ true
above_last None f fs h = refl
above_last (Some g) f fs h = (and_parts _ _ h).0

-- the values of tidy fields, and those of tidy items, are tidy
pub tidy_fields : (fs : List (List ℕ × TagData)) → is_tidy (fields (fields_of fs)) ≡ true → are_fields_tidy (fields_of fs) ≡ true
tidy_fields fs tidy = (and_parts (leb (field_count (fields_of fs)) 1000 && is_ascending (fields_of fs)) (are_fields_tidy (fields_of fs)) tidy).1

pub tidy_items : (vs : List TagData) → is_tidy (items (items_of vs)) ≡ true → are_items_tidy (items_of vs) ≡ true
tidy_items vs tidy = (and_parts (leb (item_count (items_of vs)) 1000) (are_items_tidy (items_of vs)) tidy).1

-- each field fits, and their names ascend
in_order : (inner : Format TagData) (last : Option (List ℕ × TagData)) (fs : List (List ℕ × TagData)) → Follow last fs → is_ascending (fields_of fs) ≡ true → AllFit (λ before. (entry inner None).fits) last fs
    → AllFit (λ before. (entry inner before).fits) last fs
in_order inner last [] follow ascend h = tt
in_order inner last (f ∷ fs) follow ascend h =
    let both = and_parts (is_below f.0 (fields_of fs)) (is_ascending (fields_of fs)) ascend in
    (((h.0.0.0, above_last last f fs follow), h.0.1), in_order inner (Some f) fs both.0 both.1 h.1)

pub fields_fit : (inner : Format TagData) (fs : List (List ℕ × TagData)) → is_tidy (fields (fields_of fs)) ≡ true → AllFit (λ before. (entry inner None).fits) None fs → (chain 1000 (entry inner)).fits fs
fields_fit inner fs tidy h =
    let all = and_parts (leb (field_count (fields_of fs)) 1000 && is_ascending (fields_of fs)) (are_fields_tidy (fields_of fs)) tidy in
    let first = and_parts (leb (field_count (fields_of fs)) 1000) (is_ascending (fields_of fs)) all.0 in
    let few : length fs ≤ 1000 = omega (arith, leb-true _ _ first.0, field_count_is fs) in
    (count_fits 1000 (length fs) few (omega arith), in_order inner None fs tt first.1 h)

pub items_fit : (inner : Format TagData) (vs : List TagData) → is_tidy (items (items_of vs)) ≡ true → AllFit (λ before. inner.fits) None vs → (list 1000 inner).fits vs
items_fit inner vs tidy h =
    let all = and_parts (leb (item_count (items_of vs)) 1000) (are_items_tidy (items_of vs)) tidy in
    let few : length vs ≤ 1000 = omega (arith, leb-true _ _ all.0, item_count_is vs) in
    (count_fits 1000 (length vs) few (omega arith), h)
