-- Where a row stands among the rows of tables.
use Rattle.std.proofs.Common.{◌≡◌, ℕ, zero, suc, ◌+◌, ◌-◌, List, [], ◌∷◌, ◌++◌, length, Option, Some, None, refl, ap, subst, ◌∙◌, arith}
use Rattle.std.specs.Prelude.{slice_get, option_map}
use Rattle.share_graph.specs.declared.fault.Kind.{Kind}
use Rattle.share_graph.specs.declared.fault.Kind.TheVariants as kind
use Rattle.share_graph.specs.declared.state.Tables.{Tables}
use Rattle.share_graph.specs.Rows.{row}
use Rattle.row_formats.specs.Format.{Format}
use Rattle.row_codec.specs.Rows.{account, grain, saved}
use Rattle.row_codec.specs.AppRow.{app}
use Rattle.row_codec.specs.GrantRow.{grant}
use Rattle.cloud_keeper.specs.declared.row.Row.{Row}
use Rattle.row_tables.specs.Sections.{stored, section_rows}
use Rattle.row_tables.specs.TablesRows.{rows_of}
use Rattle.row_tables.specs.RowOf.{row_of}
use Rattle.row_tables.specs.Checks.{start_of}

get_left : {X : Type 0} (xs ys : List X) (i : ℕ) (x : X) → slice_get xs i ≡ Some x → slice_get (xs ++ ys) i ≡ Some x
get_left [] ys i x e = absurd cc
get_left (z ∷ zs) ys zero x e = e
get_left (z ∷ zs) ys (suc i) x e = get_left zs ys i x e

get_right : {X : Type 0} (xs ys : List X) (i : ℕ) → slice_get (xs ++ ys) (length xs + i) ≡ slice_get ys i
get_right [] ys i = ap (λ (j : ℕ). slice_get ys j) (omega arith)
get_right (z ∷ zs) ys i =
    let further : length (z ∷ zs) + i ≡ suc (length zs + i) = omega arith in
    rw further (get_right zs ys i)

-- behind a list of so many rows
skip : (a b : List Row) (m i : ℕ) (r : Row) → length a ≡ m → slice_get b i ≡ Some r → slice_get (a ++ b) (m + i) ≡ Some r
skip a b m i r len e = subst (λ (k : ℕ). slice_get (a ++ b) (k + i) ≡ Some r) len (get_right a b i ∙ e)

rows_length : {A : Type 0} (kind : ℕ) (format : ℕ → Format A) (n : ℕ) (xs : List A) → length (section_rows kind format n xs) ≡ length xs
rows_length kind format n [] = refl
rows_length kind format n (x ∷ xs) = ap suc (rows_length kind format (suc n) xs)

some_is : {X : Type 0} (x y : X) → Some x ≡ Some y → x ≡ y
some_is x y e = cc

section_get : {A : Type 0} (kind : ℕ) (format : ℕ → Format A) (n : ℕ) (xs : List A) (i : ℕ) (x : A) → slice_get xs i ≡ Some x → slice_get (section_rows kind format n xs) i ≡ Some (stored kind format (n + i) x)
section_get kind format n [] i x e = absurd cc
section_get {A} kind format n (y ∷ ys) zero x e =
    let moved : n ≡ n + 0 = omega arith in
    ap (λ (z : A). Some (stored kind format n z)) (some_is y x e) ∙ ap (λ (m : ℕ). Some (stored kind format m x)) moved
section_get kind format n (y ∷ ys) (suc i) x e =
    let moved : suc n + i ≡ n + suc i = omega arith in
    section_get kind format (suc n) ys i x e ∙ ap (λ (m : ℕ). Some (stored kind format m x)) moved

mapped : {X : Type 0} (f : X → Row) (o : Option X) (r : Row) → option_map f o ≡ Some r → (x : X) × ((o ≡ Some x) × (f x ≡ r))
mapped f (Some x) r e = (x, (refl, some_is (f x) r e))
mapped f None r e = absurd cc

in_section : {A : Type 0} (kind : ℕ) (format : ℕ → Format A) (xs : List A) (n : ℕ) (r : Row) → option_map (stored kind format n) (row xs n) ≡ Some r → slice_get (section_rows kind format 1 xs) (n - 1) ≡ Some r
in_section kind format xs zero r e = absurd cc
in_section kind format xs (suc k) r e =
    let m = mapped (stored kind format (suc k)) (slice_get xs k) r e in
    let place : suc k - 1 ≡ k = omega arith in
    let num : 1 + k ≡ suc k = omega arith in
    rw place (section_get kind format 1 xs k m.0 m.1.0 ∙ ap (λ (j : ℕ). Some (stored kind format j m.0)) num ∙ ap (λ (q : Row). Some q) m.1.1)

pub row_there : (t : Tables) (k : Kind) (n : ℕ) (r : Row) → row_of t k n ≡ Some r → slice_get (rows_of t) (start_of t k + (n - 1)) ≡ Some r
row_there t kind.Account n r e =
    let i : 0 + (n - 1) ≡ n - 1 = omega arith in
    rw i (get_left (section_rows 1 account 1 t.accounts) _ (n - 1) r (in_section 1 account t.accounts n r e))
row_there t kind.App n r e =
    skip (section_rows 1 account 1 t.accounts) _ (length t.accounts) (n - 1) r (rows_length 1 account 1 t.accounts)
    (get_left (section_rows 2 app 1 t.apps) _ (n - 1) r (in_section 2 app t.apps n r e))
row_there t kind.Grain n r e =
    let a : ℕ = length t.accounts in
    let p : ℕ = length t.apps in
    let moved : a + (p + (n - 1)) ≡ a + p + (n - 1) = omega arith in
    subst (λ (i : ℕ). slice_get (rows_of t) i ≡ Some r) moved
    (skip (section_rows 1 account 1 t.accounts) _ a (p + (n - 1)) r (rows_length 1 account 1 t.accounts)
    (skip (section_rows 2 app 1 t.apps) _ p (n - 1) r (rows_length 2 app 1 t.apps)
    (get_left (section_rows 3 grain 1 t.grains) _ (n - 1) r (in_section 3 grain t.grains n r e))))
row_there t kind.Grant n r e =
    let a : ℕ = length t.accounts in
    let p : ℕ = length t.apps in
    let g : ℕ = length t.grains in
    let moved : a + (p + (g + (n - 1))) ≡ a + p + g + (n - 1) = omega arith in
    subst (λ (i : ℕ). slice_get (rows_of t) i ≡ Some r) moved
    (skip (section_rows 1 account 1 t.accounts) _ a (p + (g + (n - 1))) r (rows_length 1 account 1 t.accounts)
    (skip (section_rows 2 app 1 t.apps) _ p (g + (n - 1)) r (rows_length 2 app 1 t.apps)
    (skip (section_rows 3 grain 1 t.grains) _ g (n - 1) r (rows_length 3 grain 1 t.grains)
    (get_left (section_rows 4 grant 1 t.grants) _ (n - 1) r (in_section 4 grant t.grants n r e)))))
row_there t kind.Saved n r e =
    let a : ℕ = length t.accounts in
    let p : ℕ = length t.apps in
    let g : ℕ = length t.grains in
    let q : ℕ = length t.grants in
    let moved : a + (p + (g + (q + (n - 1)))) ≡ a + p + g + q + (n - 1) = omega arith in
    subst (λ (i : ℕ). slice_get (rows_of t) i ≡ Some r) moved
    (skip (section_rows 1 account 1 t.accounts) _ a (p + (g + (q + (n - 1)))) r (rows_length 1 account 1 t.accounts)
    (skip (section_rows 2 app 1 t.apps) _ p (g + (q + (n - 1))) r (rows_length 2 app 1 t.apps)
    (skip (section_rows 3 grain 1 t.grains) _ g (q + (n - 1)) r (rows_length 3 grain 1 t.grains)
    (skip (section_rows 4 grant 1 t.grants) _ q (n - 1) r (rows_length 4 grant 1 t.grants)
    (in_section 5 saved t.saved n r e)))))
row_there t kind.Session n r e = absurd cc
row_there t kind.Handle n r e = absurd cc
row_there t kind.Run n r e = absurd cc
row_there t kind.Entry n r e = absurd cc
