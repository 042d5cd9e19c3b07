-- The rows of tables are one spelling of them.
use Rattle.std.proofs.Common.{◌≡◌, ◌≢◌, ℕ, suc, ◌+◌, ◌≤◌, ◌<◌, Bool, true, false, cond, eqb, leb, List, [], ◌∷◌, ◌++◌, length, drop, Result, Ok, Err, refl, ap, subst, ◌∙◌, ◌&&◌, append-nil, arith}
use Rattle.std.specs.Prelude.{IfOk}
use Rattle.std.proofs.lemmas.Bool.{eqb-true, eq-eqb, ne_eqb, leb-true, le-leb, and_parts, and_from}
use Rattle.std.proofs.lemmas.List.{drop_more, drop_all}
use Rattle.row_formats.specs.declared.fault.RowFault.{RowFault}
use Rattle.row_formats.specs.declared.fault.RowFault.TheVariants.{BadField}
use Rattle.cloud_keeper.specs.declared.row.Row.{Row}
use Rattle.row_tables.specs.declared.stored.LoadFault.{LoadFault}
use Rattle.row_formats.specs.Place.{◌>>=◌, whole}
use Rattle.row_formats.specs.Format.{Format}
use Rattle.row_formats.specs.Exact.{IsBytes}
use Rattle.row_formats.specs.Exact.{IsExact, Spells}
use Rattle.share_graph.specs.declared.state.Tables.{Tables}
use Rattle.row_codec.specs.Rows.{account, grain, saved}
use Rattle.row_codec.specs.AppRow.{app}
use Rattle.row_codec.specs.GrantRow.{grant}
use Rattle.row_tables.specs.Sections.{at_row, row_at, body_of, with_first, section_at, section_rows, SectionFits, IsPast, GivesRow, AreBytes, blank}
use Rattle.row_tables.specs.TablesRows.{rows_of, HaveRows, at_start, ended_rows, tables_of}
use Rattle.row_tables.specs.Kept.{AreRowsOf}
use Rattle.row_formats.proofs.Steps.{bind_ok, bind_at, ok_is}
use Rattle.row_formats.proofs.Whole.{whole_found, whole_again}
use Rattle.row_codec.specs.RowsExact.{account_exact, grain_exact, saved_exact}
use Rattle.row_codec.specs.AppExact.{app_exact}
use Rattle.row_codec.specs.GrantExact.{grant_exact}

pub ends_there : (t : Tables) (i : ℕ) (rows : List Row) → length rows ≤ i → ended_rows t i (drop i rows) ≡ Ok t
ends_there t i rows le = rw (drop_all i rows le) refl

pub ends_before : (t : Tables) (i : ℕ) (rows : List Row) → i < length rows → ended_rows t i (drop i rows) ≡ Err (record { index = i; fault = BadField 0 })
ends_before t i rows lt = rw (drop_more rows i blank lt) refl

-- the bodies of all rows are bytes
abbrev pub AllBytes : List Row → Type 0
AllBytes [] = Unit {0}
AllBytes (row ∷ rows) = IsBytes row.body × AllBytes rows

all_bytes : (rows : List Row) → AreBytes rows (length rows) → AllBytes rows
all_bytes [] h = tt
all_bytes (row ∷ rows) h = (h 0 (omega arith), all_bytes rows (λ k lt. h (suc k) (omega arith)))

-- what was read of a row: its number, and its body
row_found : {A : Type 0} (limit : ℕ) (body : ℕ → Format A) → ((n : ℕ) → IsExact (body n)) → (n i : ℕ) (row : Row) (x : A) → IsBytes row.body → row_at limit (body_of body) n i row ≡ Ok x
    → (row.num ≡ n) × (n ≤ limit) × Spells (body n) x row.body
row_found {A} limit body exact n i row x fits e = this (eqb row.num n && leb n limit) refl e
  where
    located : (r : Result A RowFault) → at_row i r ≡ Ok x → r ≡ Ok x
    located (Ok y) h = ap (λ (z : A). Ok z) (ok_is y x h)
    located (Err f) h = absurd cc

    this : (b : Bool) → (eqb row.num n && leb n limit) ≡ b → cond b (at_row i (whole (body n).read row.body)) (Err (record { index = i; fault = BadField 0 })) ≡ Ok x → (row.num ≡ n) × (n ≤ limit) × Spells (body n) x row.body
    this true t h =
        let both = and_parts (eqb row.num n) (leb n limit) t in
        (eqb-true row.num n both.0, leb-true n limit both.1, whole_found (body n) (exact n) row.body x fits (located (whole (body n).read row.body) h))
    this false t h = absurd cc

row_again : {A : Type 0} (limit : ℕ) (body : ℕ → Format A) → ((n : ℕ) → IsExact (body n)) → (kind n i : ℕ) (x : A) → n ≤ limit → (body n).fits x
    → row_at limit (body_of body) n i (record { kind = kind; num = n; body = (body n).write x }) ≡ Ok x
row_again {A} limit body exact kind n i x le fits =
    let good : (eqb n n && leb n limit) ≡ true = and_from (eqb n n) (leb n limit) (eq-eqb n n refl) (le-leb n limit le) in
    rw (good, whole_again (body n) (exact n) ((body n).write x) x (record { fits = fits; text = refl })) refl

row_is : (row : Row) (k n : ℕ) (bs : List ℕ) → row.kind ≡ k → row.num ≡ n → row.body ≡ bs → row ≡ record { kind = k; num = n; body = bs }
row_is row k n bs ek en eb =
    let one : row ≡ record { kind = k; num = row.num; body = row.body } = ap (λ (x : ℕ). record { kind = x; num = row.num; body = row.body }) ek in
    let two : record { kind = k; num = row.num; body = row.body } ≡ record { kind = k; num = n; body = row.body } = ap (λ (x : ℕ). record { kind = k; num = x; body = row.body }) en in
    one ∙ two ∙ ap (λ (x : List ℕ). record { kind = k; num = n; body = x }) eb

section_found : {A : Type 0} (kind limit : ℕ) (body : ℕ → Format A) → ((n : ℕ) → IsExact (body n)) → (n i : ℕ) (rows : List Row) (xs : List A) (j : ℕ) (rest : List Row) → AllBytes rows → section_at kind limit (body_of body) n i rows ≡ Ok (xs, (j, rest))
    → (rows ≡ section_rows kind body n xs ++ rest) × SectionFits limit body n xs × AllBytes rest
unfolding section_at
section_found {A} kind limit body exact n i [] xs j rest all e =
    let h = ok_is ([], (i, [])) (xs, (j, rest)) e in
    subst (λ (y : List A × (ℕ × List Row)). ([] ≡ section_rows kind body n y.0 ++ y.1.1) × SectionFits limit body n y.0 × AllBytes y.1.1) h (refl, tt, tt)
section_found {A} kind limit body exact n i (row ∷ rows) xs j rest all e =
    this (eqb row.kind kind) refl (λ y e2. section_found kind limit body exact (suc n) (suc i) rows y.0 y.1.0 y.1.1 all.1 e2) e
  where
    this : (b : Bool) → eqb row.kind kind ≡ b
        → ((y : List A × (ℕ × List Row)) → section_at kind limit (body_of body) (suc n) (suc i) rows ≡ Ok y → (rows ≡ section_rows kind body (suc n) y.0 ++ y.1.1) × SectionFits limit body (suc n) y.0 × AllBytes y.1.1)
        → cond b (row_at limit (body_of body) n i row >>= λ x. with_first x (section_at kind limit (body_of body) (suc n) (suc i) rows)) (Ok ([], (i, row ∷ rows))) ≡ Ok (xs, (j, rest))
        → ((row ∷ rows) ≡ section_rows kind body n xs ++ rest) × SectionFits limit body n xs × AllBytes rest
    this true t next h =
        let a = bind_ok (row_at limit (body_of body) n i row) (λ x. with_first x (section_at kind limit (body_of body) (suc n) (suc i) rows)) (xs, (j, rest)) h in
        let b = bind_ok (section_at kind limit (body_of body) (suc n) (suc i) rows) (λ ys. Ok (a.0 ∷ ys.0, ys.1)) (xs, (j, rest)) a.2 in
        let r = row_found limit body exact n i row a.0 all.0 a.1 in
        let s = next b.0 b.1 in
        let k : row.kind ≡ kind = eqb-true row.kind kind t in
        let head : row ≡ record { kind = kind; num = n; body = (body n).write a.0 } = row_is row kind n ((body n).write a.0) k r.0 r.2.text in
        let whole_list : (row ∷ rows) ≡ section_rows kind body n (a.0 ∷ b.0.0) ++ b.0.1.1 = ap (λ (q : Row). q ∷ rows) head ∙ ap (λ (qs : List Row). record { kind = kind; num = n; body = (body n).write a.0 } ∷ qs) s.0 in
        subst (λ (y : List A × (ℕ × List Row)). ((row ∷ rows) ≡ section_rows kind body n y.0 ++ y.1.1) × SectionFits limit body n y.0 × AllBytes y.1.1) (ok_is (a.0 ∷ b.0.0, b.0.1) (xs, (j, rest)) b.2)
        (whole_list, (r.1, r.2.fits, s.1), s.2)
    this false t next h =
        subst (λ (y : List A × (ℕ × List Row)). ((row ∷ rows) ≡ section_rows kind body n y.0 ++ y.1.1) × SectionFits limit body n y.0 × AllBytes y.1.1) (ok_is ([], (i, row ∷ rows)) (xs, (j, rest)) h) (refl, tt, all)

section_again : {A : Type 0} (kind limit : ℕ) (body : ℕ → Format A) → ((n : ℕ) → IsExact (body n)) → (n i : ℕ) (xs : List A) (rest : List Row) → SectionFits limit body n xs → IsPast kind rest
    → section_at kind limit (body_of body) n i (section_rows kind body n xs ++ rest) ≡ Ok (xs, (i + length xs, rest))
unfolding section_at
section_again kind limit body exact n i [] [] fits past = ap (λ k. Ok ([], (k, []))) (omega arith)
section_again kind limit body exact n i [] (row ∷ rows) fits past = rw (ne_eqb row.kind kind past) (ap (λ k. Ok ([], (k, row ∷ rows))) (omega arith))
section_again {A} kind limit body exact n i (x ∷ xs) rest fits past =
    let moved : suc i + length xs ≡ i + suc (length xs) = omega arith in
    let others = section_again kind limit body exact (suc n) (suc i) xs rest fits.2 past in
    rw (eq-eqb kind kind refl)
    (bind_at (row_at limit (body_of body) n i (record { kind = kind; num = n; body = (body n).write x })) _ x _ (row_again limit body exact kind n i x fits.0 fits.1)
    (bind_at (section_at kind limit (body_of body) (suc n) (suc i) (section_rows kind body (suc n) xs ++ rest)) _ (xs, (suc i + length xs, rest)) _ others
    (ap (λ (k : ℕ). Ok (x ∷ xs, (k, rest))) moved)))

ended_found : (t : Tables) (i : ℕ) (rows : List Row) (u : Tables) → ended_rows t i rows ≡ Ok u → (rows ≡ []) × (t ≡ u)
ended_found t i [] u e = (refl, ok_is t u e)
ended_found t i (row ∷ rows) u e = absurd cc

tables_found : (rows : List Row) (t : Tables) → AllBytes rows → tables_of rows ≡ Ok t → (rows ≡ rows_of t) × HaveRows t
unfolding tables_of
tables_found rows t all e =
    let a = bind_ok (section_at 1 4096 (body_of account) 1 0 rows) _ t e in
    let p = bind_ok (section_at 2 256 (body_of app) 1 a.0.1.0 a.0.1.1) _ t a.2 in
    let n = bind_ok (section_at 3 16384 (body_of grain) 1 p.0.1.0 p.0.1.1) _ t p.2 in
    let g = bind_ok (section_at 4 65536 (body_of grant) 1 n.0.1.0 n.0.1.1) _ t n.2 in
    let s = bind_ok (section_at 5 65536 (body_of saved) 1 g.0.1.0 g.0.1.1) _ t g.2 in
    let end = ended_found _ s.0.1.0 s.0.1.1 t s.2 in
    let fa = section_found 1 4096 account account_exact 1 0 rows a.0.0 a.0.1.0 a.0.1.1 all a.1 in
    let fp = section_found 2 256 app app_exact 1 a.0.1.0 a.0.1.1 p.0.0 p.0.1.0 p.0.1.1 fa.2 p.1 in
    let fn = section_found 3 16384 grain grain_exact 1 p.0.1.0 p.0.1.1 n.0.0 n.0.1.0 n.0.1.1 fp.2 n.1 in
    let fg = section_found 4 65536 grant grant_exact 1 n.0.1.0 n.0.1.1 g.0.0 g.0.1.0 g.0.1.1 fn.2 g.1 in
    let fs = section_found 5 65536 saved saved_exact 1 g.0.1.0 g.0.1.1 s.0.0 s.0.1.0 s.0.1.1 fg.2 s.1 in
    let accounts : List Row = section_rows 1 account 1 a.0.0 in
    let apps : List Row = section_rows 2 app 1 p.0.0 in
    let grains : List Row = section_rows 3 grain 1 n.0.0 in
    let grants : List Row = section_rows 4 grant 1 g.0.0 in
    let saveds : List Row = section_rows 5 saved 1 s.0.0 in
    let last : g.0.1.1 ≡ saveds = fs.0 ∙ ap (λ (r : List Row). saveds ++ r) end.0 ∙ append-nil saveds in
    let all_rows : rows ≡ accounts ++ (apps ++ (grains ++ (grants ++ saveds))) =
    fa.0 ∙ ap (λ (r : List Row). accounts ++ r) (fp.0 ∙ ap (λ (r : List Row). apps ++ r) (fn.0 ∙ ap (λ (r : List Row). grains ++ r) (fg.0 ∙ ap (λ (r : List Row). grants ++ r) last))) in
    subst (λ (u : Tables). (rows ≡ rows_of u) × HaveRows u) end.1 (all_rows, record { accounts = fa.1; apps = fp.1; grains = fn.1; grants = fg.1; saved = fs.1 })

-- rows of another kind stand first
past_rows : {A : Type 0} (kind other : ℕ) (body : ℕ → Format A) (n : ℕ) (xs : List A) (rest : List Row) → other ≢ kind → IsPast kind rest → IsPast kind (section_rows other body n xs ++ rest)
past_rows kind other body n [] rest ne h = h
past_rows kind other body n (x ∷ xs) rest ne h = ne

-- no row of a smaller kind stands first among the rows from a kind on
past_saved : (kind : ℕ) (t : Tables) → 5 ≢ kind → IsPast kind (section_rows 5 saved 1 t.saved)
past_saved kind t ne =
    let nil : section_rows 5 saved 1 t.saved ++ [] ≡ section_rows 5 saved 1 t.saved = append-nil (section_rows 5 saved 1 t.saved) in
    subst (λ (r : List Row). IsPast kind r) nil (past_rows kind 5 saved 1 t.saved [] ne tt)

past_grants : (kind : ℕ) (t : Tables) → 4 ≢ kind → 5 ≢ kind → IsPast kind (section_rows 4 grant 1 t.grants ++ section_rows 5 saved 1 t.saved)
past_grants kind t ne other = past_rows kind 4 grant 1 t.grants (section_rows 5 saved 1 t.saved) ne (past_saved kind t other)

past_grains : (kind : ℕ) (t : Tables) → 3 ≢ kind → 4 ≢ kind → 5 ≢ kind → IsPast kind (section_rows 3 grain 1 t.grains ++ (section_rows 4 grant 1 t.grants ++ section_rows 5 saved 1 t.saved))
past_grains kind t ne next other = past_rows kind 3 grain 1 t.grains (section_rows 4 grant 1 t.grants ++ section_rows 5 saved 1 t.saved) ne (past_grants kind t next other)

pub tables_again : (t : Tables) → HaveRows t → tables_of (rows_of t) ≡ Ok (at_start t)
unfolding tables_of
tables_again t h =
    let saveds : List Row = section_rows 5 saved 1 t.saved in
    let grants : List Row = section_rows 4 grant 1 t.grants ++ saveds in
    let grains : List Row = section_rows 3 grain 1 t.grains ++ grants in
    let apps : List Row = section_rows 2 app 1 t.apps ++ grains in
    let ia : ℕ = 0 + length t.accounts in
    let ip : ℕ = ia + length t.apps in
    let in_ : ℕ = ip + length t.grains in
    let ig : ℕ = in_ + length t.grants in
    let es = section_again 5 65536 saved saved_exact 1 ig t.saved [] h.saved tt in
    let eg = section_again 4 65536 grant grant_exact 1 in_ t.grants saveds h.grants (past_saved 4 t (λ e. absurd (omega arith))) in
    let en = section_again 3 16384 grain grain_exact 1 ip t.grains grants h.grains (past_grants 3 t (λ e. absurd (omega arith)) (λ e. absurd (omega arith))) in
    let ep = section_again 2 256 app app_exact 1 ia t.apps grains h.apps (past_grains 2 t (λ e. absurd (omega arith)) (λ e. absurd (omega arith)) (λ e. absurd (omega arith))) in
    let past : IsPast 1 apps = past_rows 1 2 app 1 t.apps grains (λ e. absurd (omega arith)) (past_grains 1 t (λ e. absurd (omega arith)) (λ e. absurd (omega arith)) (λ e. absurd (omega arith))) in
    let ea = section_again 1 4096 account account_exact 1 0 t.accounts apps h.accounts past in
    let nil : saveds ++ [] ≡ saveds = append-nil saveds in
    let es' = rw nil at es in
    rw (ea, ep, en, eg, es') refl

-- what was returned has these rows
pub is_found : (rows : List Row) (r : Result Tables LoadFault) → IfOk r (λ t. AreBytes rows (length rows)) → GivesRow (λ t. t) r (tables_of rows) → IfOk r (λ t. AreRowsOf t rows)
is_found rows (Ok t) b h = let both = tables_found rows t (all_bytes rows b) h in record { have = both.1; rows_are = both.0 }
is_found rows (Err e) b h = tt
