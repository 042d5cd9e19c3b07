-- Where a target is cut behind its number.
use Rattle.std.proofs.Common.{◌≡◌, ℕ, suc, ◌+◌, ◌<◌, ◌++◌, ◌==◌, ◌&&◌, Bool, true, false, List, [], ◌∷◌, get_or, length, take, drop, codes, refl, sym, ◌∙◌, ap, arith, length-append}
use Rattle.std.specs.List.{list_all, position_or_len, before_first, after_first}
use Rattle.std.specs.Char.{is_ascii_digit}
use Rattle.std.proofs.lemmas.Bool.Decides.{nat_tests}
use Rattle.std.proofs.lemmas.List.{append_cancel_left}
use Rattle.std.proofs.lemmas.List.Sums.{split_at_first}
use Rattle.host_base.specs.declared.request.Request.{Request}
use Rattle.front_http.specs.declared.route.Route.{Route}
use Rattle.front_http.specs.declared.route.Route.TheVariants as route
use Rattle.front_http.specs.Routes.{IsNumber, IsUse, IsUsed, IsPost, HasForm, grain_form, number_of, path_of}

both : (p q : Bool) → p && q ≡ true → (p ≡ true) × (q ≡ true)
both true true e = (refl, refl)
both true false e = cc
both false q e = cc

digit_no_slash : (d : ℕ) → is_ascii_digit d ≡ true → (d == 47) ≡ false
digit_no_slash d is = grind (arith, nat_tests, is)

-- the first slash stands behind the digits
first_slash : (ds more : List ℕ) → list_all is_ascii_digit ds ≡ true → position_or_len (λ byte. byte == 47) (ds ++ (47 ∷ more)) ≡ length ds
first_slash [] more are = refl
first_slash (d ∷ ds) more are =
    let parts = both (is_ascii_digit d) (list_all is_ascii_digit ds) are in
    rw (digit_no_slash d parts.0, first_slash ds more parts.1) (omega arith)

take_front : (xs ys : List ℕ) → take (length xs) (xs ++ ys) ≡ xs
take_front [] ys = refl
take_front (x ∷ xs) ys = ap (λ (zs : List ℕ). x ∷ zs) (take_front xs ys)

drop_behind : (xs : List ℕ) (y : ℕ) (ys : List ℕ) → drop (suc (length xs)) (xs ++ (y ∷ ys)) ≡ ys
drop_behind [] y ys = refl
drop_behind (x ∷ xs) y ys = drop_behind xs y ys

-- the text behind `/use/` of such a target
pub record UseText (n : ℕ) (text more : List ℕ) : Type 0 where
  pub digits : List ℕ
  pub number : IsNumber digits n
  pub within : position_or_len (λ byte. byte == 47) text < length text
  pub before : before_first (λ byte. byte == 47) text ≡ digits
  pub after : after_first (λ byte. byte == 47) text ≡ more

pub use_text : (n : ℕ) (target text more : List ℕ) → target ≡ codes "/use/" ++ text → IsUse n target more → UseText n text more
use_text n target text more begins is =
    let text_is : text ≡ is.digits ++ (47 ∷ more) = append_cancel_left (codes "/use/") text (is.digits ++ (47 ∷ more)) (sym begins ∙ is.target_is) in
    let place : position_or_len (λ byte. byte == 47) text ≡ length is.digits = ap (λ (xs : List ℕ). position_or_len (λ byte. byte == 47) xs) text_is ∙ first_slash is.digits more is.number.decimal in
    let next : position_or_len (λ byte. byte == 47) text + 1 ≡ suc (length is.digits) = omega arith in
    record {
      digits = is.digits;
      number = is.number;
      within = omega (arith, ap length text_is, length-append is.digits (47 ∷ more));
      before = rw place (ap (take (length is.digits)) text_is ∙ take_front is.digits (47 ∷ more));
      after = rw next (ap (drop (suc (length is.digits))) text_is ∙ drop_behind is.digits 47 more);
    }

at_first : (xs : List ℕ) → position_or_len (λ byte. byte == 47) xs < length xs → get_or xs (position_or_len (λ byte. byte == 47) xs) 0 ≡ 47
at_first [] within = absurd (omega arith)
at_first (x ∷ xs) within = by_test (x == 47) refl within (λ near. at_first xs near)
  where
    by_test : (t : Bool) → (x == 47) ≡ t → position_or_len (λ byte. byte == 47) (x ∷ xs) < length (x ∷ xs)
        → (position_or_len (λ byte. byte == 47) xs < length xs → get_or xs (position_or_len (λ byte. byte == 47) xs) 0 ≡ 47) → get_or (x ∷ xs) (position_or_len (λ byte. byte == 47) (x ∷ xs)) 0 ≡ 47
    by_test true is within rest = rw is (grind (arith, nat_tests, is))
    by_test false is within rest =
        let next : position_or_len (λ byte. byte == 47) (x ∷ xs) ≡ suc (position_or_len (λ byte. byte == 47) xs) = rw is (omega arith) in
        rw next (rest (omega arith))

-- and such a target from the parts of that text
pub use_found : (n : ℕ) (target text digits more : List ℕ) → target ≡ codes "/use/" ++ text → position_or_len (λ byte. byte == 47) text < length text
    → digits ≡ before_first (λ byte. byte == 47) text → more ≡ after_first (λ byte. byte == 47) text → IsNumber digits n → IsUse n target more
use_found n target text digits more begins within before after number =
    let slash : get_or text (position_or_len (λ byte. byte == 47) text) 0 ≡ 47 = at_first text within in
    let split = split_at_first (λ byte. byte == 47) text 0 within in
    let text_is : text ≡ digits ++ (47 ∷ more) = split ∙ rw (slash, ← before, ← after) refl in
    record { digits = digits; number = number; target_is = begins ∙ ap (λ (xs : List ℕ). codes "/use/" ++ xs) text_is }

-- the path of such a target goes on with `/u`
use_path : (rest : List ℕ) → (more : List ℕ) × (path_of (codes "/use/" ++ rest) ≡ 47 ∷ 117 ∷ more)
use_path rest =
    let far : position_or_len (λ byte. byte == 63) (codes "/use/" ++ rest) ≡ suc (suc (position_or_len (λ byte. byte == 63) rest + 3)) = omega arith in
    (take (position_or_len (λ byte. byte == 63) rest + 3) (115 ∷ 101 ∷ 47 ∷ rest), ap (λ n. take n (codes "/use/" ++ rest)) far)

not_use : (path more : List ℕ) (second : ℕ) → path ≡ 47 ∷ 117 ∷ more → get_or path 1 0 ≡ second → second < 117 → ⊥
not_use path more second begins is small =
    let here : get_or path 1 0 ≡ 117 = ap (λ (xs : List ℕ). get_or xs 1 0) begins in
    omega arith

other_path : (found : Route) (more path : List ℕ) → path ≡ 47 ∷ 117 ∷ more → HasForm (grain_form found) (number_of found) path → ⊥
other_path route.Claim more path begins is = not_use path more 99 begins (ap (λ (xs : List ℕ). get_or xs 1 0) is) (omega arith)
other_path route.Save more path begins is = not_use path more 115 begins (ap (λ (xs : List ℕ). get_or xs 1 0) is) (omega arith)
other_path route.Restore more path begins is = not_use path more 114 begins (ap (λ (xs : List ℕ). get_or xs 1 0) is) (omega arith)
other_path route.Drop more path begins is = not_use path more 100 begins (ap (λ (xs : List ℕ). get_or xs 1 0) is) (omega arith)
other_path _ more path begins is = is

-- no target through a handle is another path of a running grain
pub use_alone : (request : Request) (n : ℕ) (found : Route) → IsUsed request n → IsPost grain_form request found → ⊥
use_alone request n found used post =
    let path = use_path (used.target.digits ++ (47 ∷ used.rest)) in
    other_path found path.0 (path_of request.target) (ap path_of used.target.target_is ∙ path.1) post.path
