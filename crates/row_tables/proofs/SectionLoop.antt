-- Reading the rows of one kind one after the other, as a loop does, and that such rows have one spelling.
use Rattle.std.proofs.Common.{◌≡◌, ◌≢◌, ℕ, suc, ◌+◌, ◌≤◌, ◌<◌, List, [], ◌∷◌, ◌++◌, length, get_or, drop, Result, Ok, Err, refl, sym, ap, subst, ◌∙◌, append_assoc, append-nil, below_more, arith}
use Rattle.std.proofs.lemmas.Bool.{eq-eqb, ne_eqb}
use Rattle.std.proofs.lemmas.List.{drop_more, drop_all, get_or_default}
use Rattle.cloud_keeper.specs.declared.row.Row.{Row}
use Rattle.row_tables.specs.declared.stored.LoadFault.{LoadFault}
use Rattle.row_tables.specs.declared.stored.LoadFault.TheVariants as load
use Rattle.row_formats.specs.declared.fault.RowFault.{RowFault}
use Rattle.row_formats.specs.Place.{◌>>=◌}
use Rattle.row_tables.specs.Sections.{ReadRows, row_at, with_first, section_at, FailsRows, AreBytes, blank}
use Rattle.row_formats.specs.Exact.{IsBytes}

-- what was read before, and what is still read
abbrev pub with_front : {A : Type 0} → List A → ReadRows (List A) → ReadRows (List A)
with_front front (Ok x) = Ok (front ++ x.0, x.1)
with_front front (Err e) = Err e

regroup : {A : Type 0} (front : List A) (x : A) (others : ReadRows (List A)) → with_front front (with_first x others) ≡ with_front (front ++ x ∷ []) others
regroup {A} front x (Ok r) = ap (λ (xs : List A). Ok (xs, r.1)) (simp append_assoc)
regroup front x (Err f) = refl

pub front_nil : {A : Type 0} (read : ReadRows (List A)) → with_front [] read ≡ read
front_nil (Ok x) = refl
front_nil (Err f) = refl

at_kind : {A : Type 0} (kind limit : ℕ) (read : ℕ → List ℕ → Result A RowFault) (n i : ℕ) (rows : List Row) (d : Row) → i < length rows → (get_or rows i d).kind ≡ kind
    → section_at kind limit read n i (drop i rows) ≡ (row_at limit read n i (get_or rows i d) >>= λ x. with_first x (section_at kind limit read (suc n) (suc i) (drop (i + 1) rows)))
unfolding section_at
at_kind kind limit read n i rows d lt is = rw (drop_more rows i d lt, eq-eqb _ _ is) refl

pub goes_on : {A : Type 0} (kind limit : ℕ) (read : ℕ → List ℕ → Result A RowFault) (front : List A) (n i : ℕ) (rows : List Row) (d : Row) (x : A) (total : ReadRows (List A)) → i < length rows → (get_or rows i d).kind ≡ kind
    → row_at limit read n i (get_or rows i d) ≡ Ok x → with_front front (section_at kind limit read n i (drop i rows)) ≡ total
    → with_front (front ++ x ∷ []) (section_at kind limit read (n + 1) (i + 1) (drop (i + 1) rows)) ≡ total
goes_on kind limit read front n i rows d x total lt is h so_far =
    let a : suc n ≡ n + 1 = omega arith in
    let b : suc i ≡ i + 1 = omega arith in
    let one : with_front front (section_at kind limit read n i (drop i rows)) ≡ with_front (front ++ x ∷ []) (section_at kind limit read (suc n) (suc i) (drop (i + 1) rows)) =
    rw (at_kind kind limit read n i rows d lt is, h) (regroup front x (section_at kind limit read (suc n) (suc i) (drop (i + 1) rows))) in
    sym (rw (a, b) at one) ∙ so_far

pub ends : {A : Type 0} (e : LoadFault) (kind limit : ℕ) (read : ℕ → List ℕ → Result A RowFault) (front : List A) (n i : ℕ) (rows : List Row) (d : Row) (total : ReadRows (List A)) → i < length rows → (get_or rows i d).kind ≡ kind
    → FailsRows e (row_at limit read n i (get_or rows i d)) → with_front front (section_at kind limit read n i (drop i rows)) ≡ total → FailsRows e total
ends load.Memory kind limit read front n i rows d total lt is h so_far = tt
ends (load.BadRow bad) kind limit read front n i rows d total lt is h so_far =
    let one : with_front front (section_at kind limit read n i (drop i rows)) ≡ Err bad = rw (at_kind kind limit read n i rows d lt is, h) refl in
    sym so_far ∙ one

-- at the end of the rows, and at a row of another kind
pub is_done : {A : Type 0} (kind limit : ℕ) (read : ℕ → List ℕ → Result A RowFault) (front : List A) (n i : ℕ) (rows : List Row) (total : ReadRows (List A)) → length rows ≤ i
    → with_front front (section_at kind limit read n i (drop i rows)) ≡ total → total ≡ Ok (front, (i, drop i rows))
unfolding section_at
is_done {A} kind limit read front n i rows total le so_far =
    let none : drop i rows ≡ [] = drop_all i rows le in
    sym so_far ∙ rw none (ap (λ (xs : List A). Ok (xs, (i, []))) (append-nil front))

pub passes : {A : Type 0} (kind limit : ℕ) (read : ℕ → List ℕ → Result A RowFault) (front : List A) (n i : ℕ) (rows : List Row) (d : Row) (total : ReadRows (List A)) → i < length rows → (get_or rows i d).kind ≢ kind
    → with_front front (section_at kind limit read n i (drop i rows)) ≡ total → total ≡ Ok (front, (i, drop i rows))
unfolding section_at
passes {A} kind limit read front n i rows d total lt is so_far =
    let more : drop i rows ≡ get_or rows i d ∷ drop (i + 1) rows = drop_more rows i d lt in
    sym so_far ∙ rw (more, ne_eqb _ _ is) (ap (λ (xs : List A). Ok (xs, (i, get_or rows i d ∷ drop (i + 1) rows))) (append-nil front))

-- one place of the rows, read twice, as a loop reads it: for its kind, and whole as s
pub reads_on : {A : Type 0} (kind limit : ℕ) (read : ℕ → List ℕ → Result A RowFault) (front : List A) (n i : ℕ) (rows : List Row) (r s : Row) (x : A) (total : ReadRows (List A)) → i < length rows → s ≡ get_or rows i s → (get_or rows i r).kind ≡ kind
    → row_at limit read n i s ≡ Ok x → with_front front (section_at kind limit read n i (drop i rows)) ≡ total
    → with_front (front ++ x ∷ []) (section_at kind limit read (n + 1) (i + 1) (drop (i + 1) rows)) ≡ total
reads_on {A} kind limit read front n i rows r s x total lt is k h so_far =
    let there : (get_or rows i s).kind ≡ kind = ap (λ (t : Row). t.kind) (get_or_default rows i s r lt) ∙ k in
    let it : row_at limit read n i (get_or rows i s) ≡ Ok x = ap (λ (t : Row). row_at limit read n i t) (sym is) ∙ h in
    goes_on kind limit read front n i rows s x total lt there it so_far

pub stops : {A : Type 0} (e : LoadFault) (kind limit : ℕ) (read : ℕ → List ℕ → Result A RowFault) (front : List A) (n i : ℕ) (rows : List Row) (r s : Row) (total : ReadRows (List A)) → i < length rows → s ≡ get_or rows i s → (get_or rows i r).kind ≡ kind
    → FailsRows e (row_at limit read n i s) → with_front front (section_at kind limit read n i (drop i rows)) ≡ total → FailsRows e total
stops {A} e kind limit read front n i rows r s total lt is k h so_far =
    let there : (get_or rows i s).kind ≡ kind = ap (λ (t : Row). t.kind) (get_or_default rows i s r lt) ∙ k in
    let it : FailsRows e (row_at limit read n i (get_or rows i s)) = subst (λ (t : Row). FailsRows e (row_at limit read n i t)) is h in
    ends e kind limit read front n i rows s total lt there it so_far

pub one_more : (rows : List Row) (i : ℕ) (s : Row) → i < length rows → s ≡ get_or rows i s → AreBytes rows i → IsBytes s.body → AreBytes rows (i + 1)
one_more rows i s lt is before here = below_more _ _ before (subst (λ (r : Row). IsBytes r.body) (is ∙ get_or_default rows i s blank lt) here)
