-- The number that decimal digits give.
use Rattle.std.proofs.Common.{◌≡◌, ℕ, zero, suc, ◌+◌, ◌-◌, ◌*◌, ◌<◌, ◌≤◌, ◌&&◌, Bool, true, false, List, [], ◌∷◌, None, get_or, length, drop, nat_lt, subst, refl, arith, rules, tests}
use Rattle.std.specs.List.{list_all}
use Rattle.std.specs.Char.{is_ascii_digit, digit_value}
use Rattle.std.specs.Str.Parse.{digits_value, digits_value_after}
use Rattle.std.proofs.lemmas.Str.{digit_value_digit}
use Rattle.front_http.specs.Numbers.{within}

-- no digit makes a number smaller
value_grows : (n : ℕ) (digits : List ℕ) → n ≤ digits_value_after 10 n digits
value_grows n [] = omega arith
value_grows n (digit ∷ digits) = omega (arith, value_grows (n * 10 + digit_value digit) digits)

both : (p q : Bool) → p && q ≡ true → (p ≡ true) × (q ≡ true)
both true true e = (refl, refl)
both true false e = cc
both false q e = cc

digit_is : (c : ℕ) → is_ascii_digit c ≡ true → digit_value c + 48 ≡ c
digit_is c is = digit_value_digit c (search (rules, tests))

too_large : (most : ℕ) (digits : List ℕ) (n i : ℕ) → list_all is_ascii_digit digits ≡ true → i < length digits → most < n * 10 + (get_or digits i 0 - 48) → most < digits_value_after 10 n (drop i digits)
too_large most [] n i are here large = absurd (omega arith)
too_large most (c ∷ cs) n zero are here large =
    omega (arith, value_grows (n * 10 + digit_value c) cs, digit_is c (both (is_ascii_digit c) (list_all is_ascii_digit cs) are).0)
too_large most (c ∷ cs) n (suc i) are here large = too_large most cs n i (both (is_ascii_digit c) (list_all is_ascii_digit cs) are).1 (omega arith) large

-- once the number of the first digits is too large, that of all is
pub too_long : (most : ℕ) (digits : List ℕ) (n i : ℕ) → list_all is_ascii_digit digits ≡ true → i < length digits → most < n * 10 + (get_or digits i 0 - 48)
    → digits_value_after 10 n (drop i digits) ≡ digits_value 10 digits → None ≡ within most digits
too_long most digits n i are here large rest =
    let far : most < digits_value 10 digits = subst (λ m. most < m) rest (too_large most digits n i are here large) in
    let over : nat_lt most (digits_value 10 digits) ≡ true = search (rules, tests) in
    rw over refl
