-- The number that a text of decimal digits gives.
use Rattle.std.proofs.Common.{◌≡◌, ℕ, zero, suc, ◌<◌, ◌≤◌, ◌^◌, ◌&&◌, Bool, true, false, List, [], ◌∷◌, Result, Ok, Err, length, nat_lt, refl, subst, arith, rules}
use Rattle.std.specs.List.{list_all}
use Rattle.std.specs.Char.{is_ascii_digit}
use Rattle.std.specs.Result.{OkIff}
use Rattle.std.specs.Str.{IsAscii, IsUtf8}
use Rattle.std.specs.Str.Parse.{digits_value, ParsesUnsigned}
use Rattle.std.proofs.lemmas.Str.{IsUtf8-from_ascii}
use Rattle.std.proofs.lemmas.Bool.Decides.{nat_tests}
use Rattle.std.proofs.lemmas.Str.Parse.{IsNumeralModel, numerals_by_value, parse_digits}
use Rattle.front_http.specs.Heads.{are_lengths}

own : IsNumeralModel (λ ds. list_all is_ascii_digit ds ≡ true) (digits_value 10)
own = numerals_by_value _ (search rules)

-- digits that have a number below 2^64 are a length, and give that number
pub number_some : {E : Type 0} (bs : List ℕ) (n : ℕ) (r : Result ℕ E) → list_all is_ascii_digit bs ≡ true → ParsesUnsigned 64 10 bs r → r ≡ Ok n
    → (are_lengths (bs ∷ []) ≡ true) × (n ≡ digits_value 10 bs)
number_some {E} bs n r digits parses is =
    let met : OkIff r ((0 < length bs) × (digits_value 10 bs < 2 ^ 64)) (digits_value 10 bs) = parse_digits own 64 bs r parses digits in
    let at : ((0 < length bs) × (digits_value 10 bs < 2 ^ 64)) × (n ≡ digits_value 10 bs) =
    subst (λ (s : Result ℕ E). OkIff s ((0 < length bs) × (digits_value 10 bs < 2 ^ 64)) (digits_value 10 bs)) is met in
    let some : nat_lt 0 (length bs) ≡ true = grind (arith, nat_tests, at.0.0) in
    (rw (some, digits) refl, at.1)

both : (p q : Bool) → p && q ≡ true → (p ≡ true) × (q ≡ true)
both true true e = (refl, refl)
both true false e = cc
both false q e = cc

not_less : (a b : ℕ) → (a < b → ⊥) → b ≤ a
not_less a b none = omega arith

-- digits without such a number have a larger one, or none
pub number_none : {E : Type 0} (bs : List ℕ) (e : E) (r : Result ℕ E) → list_all is_ascii_digit bs ≡ true → ParsesUnsigned 64 10 bs r → r ≡ Err e
    → are_lengths (bs ∷ []) ≡ true → 2 ^ 64 ≤ digits_value 10 bs
number_none {E} bs e r digits parses is good =
    let met : OkIff r ((0 < length bs) × (digits_value 10 bs < 2 ^ 64)) (digits_value 10 bs) = parse_digits own 64 bs r parses digits in
    let none : (0 < length bs) × (digits_value 10 bs < 2 ^ 64) → ⊥ =
    subst (λ (s : Result ℕ E). OkIff s ((0 < length bs) × (digits_value 10 bs < 2 ^ 64)) (digits_value 10 bs)) is met in
    let first : nat_lt 0 (length bs) ≡ true = (both (nat_lt 0 (length bs)) (list_all is_ascii_digit bs) good).0 in
    let some : 0 < length bs = grind (arith, nat_tests, first) in
    not_less (digits_value 10 bs) (2 ^ 64) (λ small. none (some, small))

all_digits : (bs : List ℕ) → list_all is_ascii_digit bs ≡ true → IsAscii bs
all_digits [] digits i = omega arith
all_digits (b ∷ bs) digits zero = let here : is_ascii_digit b ≡ true = (both (is_ascii_digit b) (list_all is_ascii_digit bs) digits).0 in grind (arith, nat_tests, here)
all_digits (b ∷ bs) digits (suc i) = all_digits bs (both (is_ascii_digit b) (list_all is_ascii_digit bs) digits).1 i

-- digits are text
pub digits_utf8 : (bs : List ℕ) → list_all is_ascii_digit bs ≡ true → IsUtf8 bs
digits_utf8 bs digits = IsUtf8-from_ascii bs (all_digits bs digits)
