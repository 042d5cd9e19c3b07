-- A value that is read is within the limits of a tag.
use Rattle.std.proofs.Common.{◌≡◌, ℕ, zero, suc, ◌≤◌, Bool, true, false, cond, eqb, leb, List, [], ◌∷◌, length, Option, Some, None, Ok, refl, sym, ap, subst, ◌∙◌, arith}
use Rattle.std.specs.Prelude.{option_map}
use Rattle.std.specs.Int.{w8, w16}
use Rattle.std.proofs.lemmas.Bool.{leb-true, and_from}
use Rattle.std.proofs.lemmas.Bool.Decides.{nat_tests}
use Rattle.powerbox_match.specs.Value.{TagData, any, number, text, fields, items, fields_of, items_of, nesting, fields_nesting, items_nesting, is_tidy, are_fields_tidy, are_items_tidy, is_below, is_ascending, field_count, item_count}
use Rattle.powerbox_match.proofs.Merge.{is_below-trans}
use Rattle.row_formats.specs.declared.fault.RowFault.{RowFault}
use Rattle.row_formats.specs.declared.fault.RowFault.TheVariants.{BadField}
use Rattle.row_formats.specs.Place.{Place, Read, ◌>>=◌, judged}
use Rattle.row_formats.specs.Format.{Format, number_at, read_one, items_at, list_at, count, chain, list, text as name, text_above, is_above, integer, made}
use Rattle.row_formats.proofs.Steps.{bind_ok, ok_is, judged_ok}
use Rattle.row_formats.proofs.Parts.{tested}
use Rattle.row_codec.specs.ValueFormat.{value, values, entry, the_number, the_text, the_fields, the_items}

-- what is read in each of the formats has a property
abbrev AllRead : {A : Type 0} → (A → Type 0) → List (Format A) → Type 0
AllRead P [] = Unit {0}
AllRead {A} P (f ∷ fs) = ((p : Place) (x : A) (q : Place) → f.read p ≡ Ok (x, q) → P x) × AllRead P fs

one_read : {A : Type 0} (P : A → Type 0) (fault : RowFault) (k : ℕ) (fs : List (Format A)) (n : ℕ) (p : Place) (x : A) (q : Place) → AllRead P fs → read_one fault k fs n p ≡ Ok (x, q) → P x
one_read P fault k [] n p x q all e = absurd cc
one_read P fault k (f ∷ fs) n p x q all e = this (eqb n k) (λ h. one_read P fault (suc k) fs n p x q all.1 h) e
  where
    this : (b : Bool) → (read_one fault (suc k) fs n p ≡ Ok (x, q) → P x) → cond b (f.read p) (read_one fault (suc k) fs n p) ≡ Ok (x, q) → P x
    this true next h = all.0 p x q h
    this false next h = next h

-- so many items are read, of at most the limit
pub items_count : {A : Type 0} (read : Option A → Place → Read A) (last : Option A) (n : ℕ) (p : Place) (xs : List A) (q : Place) → items_at read last n p ≡ Ok (xs, q) → length xs ≡ n
unfolding items_at
items_count {A} read last zero p xs q e = ap (λ (y : List A × Place). length y.0) (sym (ok_is ([], p) (xs, q) e))
items_count {A} read last (suc n) p xs q e =
    let a = bind_ok (read last p) (λ x. items_at read (Some x.0) n x.1 >>= λ ys. Ok (x.0 ∷ ys.0, ys.1)) (xs, q) e in
    let b = bind_ok (items_at read (Some a.0.0) n a.0.1) (λ ys. Ok (a.0.0 ∷ ys.0, ys.1)) (xs, q) a.2 in
    let rest : length b.0.0 ≡ n = items_count read (Some a.0.0) n a.0.1 b.0.0 b.0.1 b.1 in
    ap (λ (y : List A × Place). length y.0) (sym (ok_is (a.0.0 ∷ b.0.0, b.0.1) (xs, q) b.2)) ∙ ap suc rest

count_read : (limit : ℕ) (p : Place) (n : ℕ) (q : Place) → (count limit).read p ≡ Ok (n, q) → n ≤ limit
count_read limit p n q e =
    let a = bind_ok (number_at w16 p) (λ y. judged p.at (cond (leb y.0 limit) (Some y.0) None) y.1) (n, q) e in
    let j = judged_ok p.at (cond (leb a.0.0 limit) (Some a.0.0) None) a.0.1 (n, q) a.2 in
    let t = tested (leb a.0.0 limit) a.0.0 n j.0 in
    subst (λ (m : ℕ). m ≤ limit) t.1 (leb-true a.0.0 limit t.0)

pub list_read : {A : Type 0} (limit : ℕ) (read : Option A → Place → Read A) (p : Place) (xs : List A) (q : Place) → list_at limit read p ≡ Ok (xs, q)
    → (n : ℕ) × ((r : Place) × (items_at read None n r ≡ Ok (xs, q)) × (length xs ≤ limit))
list_read limit read p xs q e =
    let a = bind_ok ((count limit).read p) (λ n. items_at read None n.0 n.1) (xs, q) e in
    let few : a.0.0 ≤ limit = count_read limit p a.0.0 a.0.1 a.1 in
    (a.0.0, (a.0.1, a.2, omega (arith, few, items_count read None a.0.0 a.0.1 xs q a.2)))

pub list_few : {A : Type 0} (limit : ℕ) (read : Option A → Place → Read A) (p : Place) (xs : List A) (q : Place) → list_at limit read p ≡ Ok (xs, q) → length xs ≤ limit
list_few limit read p xs q e = (list_read limit read p xs q e).1.2

-- ---- values

-- a value nests at most so deep, and each list in it is within the limits
abbrev Within : ℕ → TagData → Type 0
Within depth d = (nesting d ≤ depth) × (is_tidy d ≡ true)

-- fields nest at most so deep, are within the limits, and ascend
abbrev FieldsWithin : ℕ → List (List ℕ × TagData) → Type 0
FieldsWithin depth fs = (fields_nesting (fields_of fs) ≤ depth) × (are_fields_tidy (fields_of fs) ≡ true) × (is_ascending (fields_of fs) ≡ true)

-- the fields are above the one before them
abbrev pub Follow : Option (List ℕ × TagData) → List (List ℕ × TagData) → Type 0
Follow None fs = Unit {0}
Follow (Some f) fs = is_below f.0 (fields_of fs) ≡ true

-- items nest at most so deep, and are within the limits
abbrev ItemsWithin : ℕ → List TagData → Type 0
ItemsWithin depth vs = (items_nesting (items_of vs) ≤ depth) × (are_items_tidy (items_of vs) ≡ true)

pub field_count_is : (fs : List (List ℕ × TagData)) → field_count (fields_of fs) ≡ length fs
field_count_is [] = refl
field_count_is (f ∷ fs) = ap suc (field_count_is fs)

pub item_count_is : (vs : List TagData) → item_count (items_of vs) ≡ length vs
item_count_is [] = refl
item_count_is (v ∷ vs) = ap suc (item_count_is vs)

at_most : (n m : ℕ) → n ≤ m → leb n m ≡ true
at_most n m h = grind (arith, nat_tests)

above_read : (last : Option (List ℕ)) (p : Place) (t : List ℕ) (q : Place) → (text_above last).read p ≡ Ok (t, q) → is_above last t ≡ true
above_read last p t q e =
    let a = bind_ok (name.read p) (λ y. judged p.at (cond (is_above last y.0) (Some y.0) None) y.1) (t, q) e in
    let j = judged_ok p.at (cond (is_above last a.0.0) (Some a.0.0) None) a.0.1 (t, q) a.2 in
    let h = tested (is_above last a.0.0) a.0.0 t j.0 in
    subst (λ (u : List ℕ). is_above last u ≡ true) h.1 h.0

follow_more : (last : Option (List ℕ × TagData)) (t : List ℕ) (v : TagData) (fs : List (List ℕ × TagData)) → is_above (option_map (λ f. f.0) last) t ≡ true → is_below t (fields_of fs) ≡ true → Follow last ((t, v) ∷ fs)
follow_more None t v fs above below = tt
follow_more (Some f) t v fs above below = and_from _ _ above (is_below-trans f.0 t (fields_of fs) above below)

fields_read : (depth : ℕ) (inner : Format TagData) → ((p : Place) (d : TagData) (q : Place) → inner.read p ≡ Ok (d, q) → Within depth d) → (last : Option (List ℕ × TagData)) (n : ℕ) (p : Place) (fs : List (List ℕ × TagData)) (q : Place)
    → items_at (λ o. (entry inner o).read) last n p ≡ Ok (fs, q) → FieldsWithin depth fs × Follow last fs
unfolding items_at
fields_read depth inner within last zero p fs q e =
    subst (λ (y : List (List ℕ × TagData) × Place). FieldsWithin depth y.0 × Follow last y.0) (ok_is ([], p) (fs, q) e) ((omega arith, refl, refl), none last)
  where
    none : (o : Option (List ℕ × TagData)) → Follow o []
    none None = tt
    none (Some f) = refl
fields_read depth inner within last (suc n) p fs q e =
    let a = bind_ok ((entry inner last).read p) (λ x. items_at (λ o. (entry inner o).read) (Some x.0) n x.1 >>= λ ys. Ok (x.0 ∷ ys.0, ys.1)) (fs, q) e in
    let b = bind_ok (items_at (λ o. (entry inner o).read) (Some a.0.0) n a.0.1) (λ ys. Ok (a.0.0 ∷ ys.0, ys.1)) (fs, q) a.2 in
    let t = bind_ok ((text_above (option_map (λ f. f.0) last)).read p) (λ x. inner.read x.1 >>= λ y. Ok ((x.0, y.0), y.1)) a.0 a.1 in
    let v = bind_ok (inner.read t.0.1) (λ y. Ok ((t.0.0, y.0), y.1)) a.0 t.2 in
    let above = above_read (option_map (λ f. f.0) last) p t.0.0 t.0.1 t.1 in
    let value_in = within t.0.1 v.0.0 v.0.1 v.1 in
    let here : (t.0.0, v.0.0) ≡ a.0.0 = ap (λ (y : (List ℕ × TagData) × Place). y.0) (ok_is ((t.0.0, v.0.0), v.0.1) a.0 v.2) in
    let rest : FieldsWithin depth b.0.0 × Follow (Some (t.0.0, v.0.0)) b.0.0 =
    subst (λ (f : List ℕ × TagData). FieldsWithin depth b.0.0 × Follow (Some f) b.0.0) (sym here) (fields_read depth inner within (Some a.0.0) n a.0.1 b.0.0 b.0.1 b.1) in
    let all : FieldsWithin depth ((t.0.0, v.0.0) ∷ b.0.0) × Follow last ((t.0.0, v.0.0) ∷ b.0.0) =
    ((omega (arith, value_in.0, rest.0.0), and_from _ _ value_in.1 rest.0.1, and_from _ _ rest.1 rest.0.2), follow_more last t.0.0 v.0.0 b.0.0 above rest.1) in
    subst (λ (y : List (List ℕ × TagData) × Place). FieldsWithin depth y.0 × Follow last y.0) (ok_is (a.0.0 ∷ b.0.0, b.0.1) (fs, q) b.2)
    (subst (λ (f : List ℕ × TagData). FieldsWithin depth (f ∷ b.0.0) × Follow last (f ∷ b.0.0)) here all)

items_read : (depth : ℕ) (inner : Format TagData) → ((p : Place) (d : TagData) (q : Place) → inner.read p ≡ Ok (d, q) → Within depth d) → (last : Option TagData) (n : ℕ) (p : Place) (vs : List TagData) (q : Place)
    → items_at (λ o. inner.read) last n p ≡ Ok (vs, q) → ItemsWithin depth vs
unfolding items_at
items_read depth inner within last zero p vs q e =
    subst (λ (y : List TagData × Place). ItemsWithin depth y.0) (ok_is ([], p) (vs, q) e) (omega arith, refl)
items_read depth inner within last (suc n) p vs q e =
    let a = bind_ok (inner.read p) (λ x. items_at (λ o. inner.read) (Some x.0) n x.1 >>= λ ys. Ok (x.0 ∷ ys.0, ys.1)) (vs, q) e in
    let b = bind_ok (items_at (λ o. inner.read) (Some a.0.0) n a.0.1) (λ ys. Ok (a.0.0 ∷ ys.0, ys.1)) (vs, q) a.2 in
    let value_in = within p a.0.0 a.0.1 a.1 in
    let rest = items_read depth inner within (Some a.0.0) n a.0.1 b.0.0 b.0.1 b.1 in
    subst (λ (y : List TagData × Place). ItemsWithin depth y.0) (ok_is (a.0.0 ∷ b.0.0, b.0.1) (vs, q) b.2)
    (omega (arith, value_in.0, rest.0), and_from _ _ value_in.1 rest.1)

-- what `made` reads is made of what its format reads
made_read : {A B : Type 0} (make : B → A) (parts : A → B) (f : Format B) (p : Place) (x : A) (q : Place) → (made make parts f).read p ≡ Ok (x, q) → (y : B) × ((r : Place) × (f.read p ≡ Ok (y, r)) × (make y ≡ x))
made_read {A} make parts f p x q e =
    let a = bind_ok (f.read p) (λ y. Ok (make y.0, y.1)) (x, q) e in
    (a.0.0, (a.0.1, a.1, ap (λ (z : A × Place). z.0) (ok_is (make a.0.0, a.0.1) (x, q) a.2)))

fields_in : (depth : ℕ) (fs : List (List ℕ × TagData)) → length fs ≤ 1000 → FieldsWithin depth fs → Within (suc depth) (fields (fields_of fs))
fields_in depth fs few h =
    let short : leb (field_count (fields_of fs)) 1000 ≡ true = at_most _ 1000 (omega (arith, few, field_count_is fs)) in
    (omega (arith, h.0), and_from _ _ (and_from _ _ short h.2) h.1)

items_in : (depth : ℕ) (vs : List TagData) → length vs ≤ 1000 → ItemsWithin depth vs → Within (suc depth) (items (items_of vs))
items_in depth vs few h =
    let short : leb (item_count (items_of vs)) 1000 ≡ true = at_most _ 1000 (omega (arith, few, item_count_is vs)) in
    (omega (arith, h.0), and_from _ _ short h.1)

pub value_within : (depth : ℕ) (p : Place) (d : TagData) (q : Place) → (value depth).read p ≡ Ok (d, q) → Within depth d
unfolding value
value_within zero p d q e =
    let a = bind_ok (number_at w8 p) (λ n. read_one (BadField p.at) 0 [] n.0 n.1) (d, q) e in
    one_read (Within zero) (BadField p.at) 0 [] a.0.0 a.0.1 d q tt a.2
value_within (suc depth) p d q e =
    let a = bind_ok (number_at w8 p) (λ n. read_one (BadField p.at) 0 (values (value depth)) n.0 n.1) (d, q) e in
    let inner = value_within depth in
    one_read (Within (suc depth)) (BadField p.at) 0 (values (value depth)) a.0.0 a.0.1 d q (
      λ r x s h. subst (λ (y : TagData × Place). Within (suc depth) y.0) (ok_is (any, r) (x, s) h) (omega arith, refl),
      (
        λ r x s h. let m = made_read number the_number integer r x s h in subst (λ (y : TagData). Within (suc depth) y) m.1.2 (omega arith, refl),
        (
          λ r x s h. let m = made_read text the_text name r x s h in subst (λ (y : TagData). Within (suc depth) y) m.1.2 (omega arith, refl),
          (
            λ r x s h.
                let m = made_read (λ fs. fields (fields_of fs)) the_fields (chain 1000 (entry (value depth))) r x s h in
                let l = list_read 1000 (λ o. (entry (value depth) o).read) r m.0 m.1.0 m.1.1 in
                let all = fields_read depth (value depth) inner None l.0 l.1.0 m.0 m.1.0 l.1.1 in
                subst (λ (y : TagData). Within (suc depth) y) m.1.2 (fields_in depth m.0 l.1.2 all.0),
            (
              λ r x s h.
                  let m = made_read (λ vs. items (items_of vs)) the_items (list 1000 (value depth)) r x s h in
                  let l = list_read 1000 (λ o. (value depth).read) r m.0 m.1.0 m.1.1 in
                  let all = items_read depth (value depth) inner None l.0 l.1.0 m.0 m.1.0 l.1.1 in
                  subst (λ (y : TagData). Within (suc depth) y) m.1.2 (items_in depth m.0 l.1.2 all),
              tt,
            ),
          ),
        ),
      ),
    ) a.2
