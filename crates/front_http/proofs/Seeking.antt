-- The routers find the route of each path of the tables.
use Rattle.std.proofs.Common.{◌≡◌, ℕ, zero, suc, ◌+◌, ◌-◌, ◌<◌, ◌≤◌, ◌++◌, ◌&&◌, ◌==◌, ltb, Bool, true, false, cond, List, [], ◌∷◌, Some, None, length, drop, refl, sym, ◌∙◌, ap, subst, arith, length-append}
use Rattle.std.specs.List.{list_all}
use Rattle.std.specs.Char.{is_ascii_digit}
use Rattle.std.proofs.lemmas.Bool.Decides.{nat_tests}
use Rattle.matchit.specs.Rows.{RowsOf}
use Rattle.matchit.specs.Seek.{step, seek, first, segment, has_slash, cuts, longest_from, longest_suffix, with_suffix, param_step}
use Rattle.front_http.specs.declared.route.Route.{Route}

-- rows of routes
abbrev pub Paths : Type 0
Paths = RowsOf Route

step_empty : (path : List ℕ) → (param_step {K = Route} [] path).1 ≡ []
unfolding param_step
step_empty path = elim (has_slash path) as (λ v. (cond {A = ℕ × Paths} v (0, []) (length path, [])).1 ≡ []) [ true ↦ refl | false ↦ refl ]

seek_nothing : (skip : ℕ) (path : List ℕ) → seek {K = Route} skip [] path ≡ None
unfolding seek
seek_nothing skip [] = refl
seek_nothing (suc skip) (b ∷ path) = seek_nothing skip path
seek_nothing zero (b ∷ path) = simp (seek_nothing 0 path, step_empty (b ∷ path), seek_nothing ((param_step {K = Route} [] (b ∷ path)).0 - 1) path)

seek_skip : (ds rest : List ℕ) (rows : Paths) → seek (length ds) rows (ds ++ rest) ≡ seek 0 rows rest
unfolding seek
seek_skip [] rest rows = refl
seek_skip (d ∷ ds) rest rows = seek_skip ds rest rows

by_byte : (b : ℕ) (rows : Paths) (path : List ℕ) (found : Route) → seek 0 (step b rows) path ≡ Some found → seek 0 rows (b ∷ path) ≡ Some found
unfolding seek
by_byte b rows path found is = rw is refl

-- the rows behind some bytes
abbrev pub steps : List ℕ → Paths → Paths
steps [] rows = rows
steps (b ∷ bs) rows = steps bs (step b rows)

by_bytes : (bs : List ℕ) (rows : Paths) (path : List ℕ) (found : Route) → seek 0 (steps bs rows) path ≡ Some found → seek 0 rows (bs ++ path) ≡ Some found
by_bytes [] rows path found is = is
by_bytes (b ∷ bs) rows path found is = by_byte b rows (bs ++ path) found (by_bytes bs (step b rows) path found is)

-- each row goes on with a slash
abbrev pub are_slashed : Paths → Bool
are_slashed [] = true
are_slashed (([], key) ∷ rest) = false
are_slashed ((x ∷ t, key) ∷ rest) = (x == 47) && are_slashed rest

-- each row goes on with what is no digit, as a parameter isn't
abbrev pub are_wild : Paths → Bool
are_wild [] = true
are_wild (([], key) ∷ rest) = false
are_wild ((x ∷ t, key) ∷ rest) = ltb 57 x && are_wild rest

both : (p q : Bool) → p && q ≡ true → (p ≡ true) × (q ≡ true)
both true true e = (refl, refl)
both true false e = cc
both false q e = cc

same_number : (x y : ℕ) → (x == y) ≡ true → x ≡ y
same_number x y is = grind (arith, nat_tests, is)

other_number : (x y : ℕ) → x < y → (y == x) ≡ false
other_number x y less = grind (arith, nat_tests, less)

above : (x : ℕ) → ltb 57 x ≡ true → 57 < x
above x is = grind (arith, nat_tests, is)

step_wild : (d : ℕ) (rows : Paths) → d ≤ 57 → are_wild rows ≡ true → step d rows ≡ []
step_wild d [] small are = refl
step_wild d (([], key) ∷ rest) small are = cc
step_wild d ((x ∷ t, key) ∷ rest) small are =
    let parts = both (ltb 57 x) (are_wild rest) are in
    let other : d < x = omega (arith, small, above x parts.0) in
    rw (other_number d x other) (step_wild d rest small parts.1)

digit_bounds : (d : ℕ) → is_ascii_digit d ≡ true → (48 ≤ d) × (d ≤ 57)
digit_bounds d is = (grind (arith, nat_tests, is), grind (arith, nat_tests, is))

segment_digits : (ds more : List ℕ) → list_all is_ascii_digit ds ≡ true → segment (ds ++ (47 ∷ more)) ≡ ds ++ (47 ∷ [])
segment_digits [] more are = refl
segment_digits (d ∷ ds) more are =
    let parts = both (is_ascii_digit d) (list_all is_ascii_digit ds) are in
    let bounds = digit_bounds d parts.0 in
    let not_slash : (d == 47) ≡ false = grind (arith, nat_tests, bounds) in
    rw not_slash (ap (λ (xs : List ℕ). d ∷ xs) (segment_digits ds more parts.1))

drop_front : (ds rest : List ℕ) → drop (length ds) (ds ++ rest) ≡ rest
drop_front [] rest = refl
drop_front (d ∷ ds) rest = drop_front ds rest

cuts_slash : (ds : List ℕ) → 0 < length ds → cuts (ds ++ (47 ∷ [])) (47 ∷ []) ≡ true
cuts_slash ds some =
    let long : length (ds ++ (47 ∷ [])) ≡ length ds + 1 = length-append ds (47 ∷ []) in
    let less : length (ds ++ (47 ∷ [])) - 1 ≡ length ds = omega arith in
    let test : ltb 1 (length (ds ++ (47 ∷ []))) ≡ true = grind (arith, nat_tests, long) in
    rw (test, less, drop_front ds (47 ∷ [])) refl

longest_after : (seg : List ℕ) (rows : Paths) → are_slashed rows ≡ true → longest_from seg (47 ∷ []) rows ≡ 47 ∷ []
longest_after seg [] are = refl
longest_after seg (([], key) ∷ rest) are = cc
longest_after seg ((x ∷ t, key) ∷ rest) are =
    let parts = both (x == 47) (are_slashed rest) are in
    let x_is : x ≡ 47 = same_number x 47 parts.0 in
    rw x_is (longest_after seg rest parts.1)

longest_slashed : (seg : List ℕ) (rows : Paths) → are_slashed rows ≡ true → 0 < length rows → cuts seg (47 ∷ []) ≡ true → longest_suffix seg rows ≡ 47 ∷ []
longest_slashed seg [] are some cut = absurd (omega arith)
longest_slashed seg (([], key) ∷ rest) are some cut = cc
longest_slashed seg ((x ∷ t, key) ∷ rest) are some cut =
    let parts = both (x == 47) (are_slashed rest) are in
    let x_is : x ≡ 47 = same_number x 47 parts.0 in
    rw (x_is, cut) (longest_after seg rest parts.1)

kept_slashed : (rows : Paths) → are_slashed rows ≡ true → with_suffix (47 ∷ []) rows ≡ rows
kept_slashed [] are = refl
kept_slashed (([], key) ∷ rest) are = cc
kept_slashed ((x ∷ t, key) ∷ rest) are =
    let parts = both (x == 47) (are_slashed rest) are in
    let x_is : x ≡ 47 = same_number x 47 parts.0 in
    subst (λ y. with_suffix (47 ∷ []) ((y ∷ t, key) ∷ rest) ≡ (y ∷ t, key) ∷ rest) (sym x_is) (ap (λ (more : Paths). (47 ∷ t, key) ∷ more) (kept_slashed rest parts.1))

step_is : (tails : Paths) (ds more : List ℕ) → are_slashed tails ≡ true → 0 < length tails → list_all is_ascii_digit ds ≡ true → 0 < length ds
    → param_step tails (ds ++ (47 ∷ more)) ≡ (length ds, tails)
unfolding param_step
step_is tails ds more are some digits_are digits_some =
    let seg : segment (ds ++ (47 ∷ more)) ≡ ds ++ (47 ∷ []) = segment_digits ds more digits_are in
    let longest : longest_suffix (ds ++ (47 ∷ [])) tails ≡ 47 ∷ [] = longest_slashed (ds ++ (47 ∷ [])) tails are some (cuts_slash ds digits_some) in
    let long : length (ds ++ (47 ∷ [])) ≡ length ds + 1 = length-append ds (47 ∷ []) in
    let less : length (ds ++ (47 ∷ [])) - 1 ≡ length ds = omega arith in
    rw (seg, longest, less, kept_slashed tails are) refl

-- a number, and then a slash
param_found : (rows : Paths) (ds more : List ℕ) (found : Route) → are_wild rows ≡ true → are_slashed (step 256 rows) ≡ true → 0 < length (step 256 rows) → list_all is_ascii_digit ds ≡ true → 0 < length ds
    → seek 0 (step 256 rows) (47 ∷ more) ≡ Some found → seek 0 rows (ds ++ (47 ∷ more)) ≡ Some found
unfolding seek
param_found rows [] more found wild slashed some digits_are digits_some is = absurd (omega arith)
param_found rows (d ∷ ds) more found wild slashed some digits_are digits_some is =
    let parts = both (is_ascii_digit d) (list_all is_ascii_digit ds) digits_are in
    let bounds = digit_bounds d parts.0 in
    let none : step d rows ≡ [] = step_wild d rows bounds.1 wild in
    let here : param_step (step 256 rows) (d ∷ (ds ++ (47 ∷ more))) ≡ (length (d ∷ ds), step 256 rows) = step_is (step 256 rows) (d ∷ ds) more slashed some digits_are digits_some in
    let less : length (d ∷ ds) - 1 ≡ length ds = omega arith in
    let rest : seek (length (d ∷ ds) - 1) (step 256 rows) (ds ++ (47 ∷ more)) ≡ Some found = rw less (seek_skip ds (47 ∷ more) (step 256 rows) ∙ is) in
    rw (none, seek_nothing 0 (ds ++ (47 ∷ more)), here, rest) refl

-- a path with a number between two texts, of which the second goes on with a slash
pub numbered_found : (rows : Paths) (before ds more : List ℕ) (found : Route) → are_wild (steps before rows) ≡ true → are_slashed (step 256 (steps before rows)) ≡ true → 0 < length (step 256 (steps before rows))
    → seek 0 (step 256 (steps before rows)) (47 ∷ more) ≡ Some found → list_all is_ascii_digit ds ≡ true → 0 < length ds → first rows (before ++ (ds ++ (47 ∷ more))) ≡ Some found
numbered_found rows before ds more found wild slashed some is digits_are digits_some =
    by_bytes before rows (ds ++ (47 ∷ more)) found (param_found (steps before rows) ds more found wild slashed some digits_are digits_some is)
