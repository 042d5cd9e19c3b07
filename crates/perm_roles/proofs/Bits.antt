-- The bits of a number as a set of places.
use Rattle.std.proofs.Common.{◌≡◌, ◌≢◌, ◌⊎◌, ◌↔◌, ℕ, zero, suc, ◌+◌, ◌-◌, ◌*◌, ◌/◌, ◌%◌, ◌^◌, ◌<◌, ◌≤◌, min, max, ◌∙◌, sym, ap, inl, inr, arith}
use Rattle.std.specs.Prelude.{bit_and, bit_or, IsTrue, nat_eq}
use Rattle.std.specs.Int.{bit_at, w64}
use Rattle.std.proofs.lemmas.Nat.Bits.{bit_at-lt, bit_at_and, bit_at_or, bit_at_not, bit_at_set_same, bit_at_set_other, bit_at_above, bit_at-zero, bit_at_ones, bit_at_ones_above, same_from_bits}
use Rattle.std.proofs.Math.Nat.{pow-suc}
use Rattle.std.proofs.lemmas.Bool.Decides.{nat_tests}
use Rattle.std.proofs.lemmas.Nat.{pow_below, pow_pos, shr-shr, shr_split, mod_below}

differ : (n : ℕ) → n ≡ 1 → n ≡ 0 → ⊥
differ n e f = omega arith

max_one : (a b : ℕ) → a < 2 → b < 2 → (max a b ≡ 1) ↔ ((a ≡ 1) ⊎ (b ≡ 1))
max_one a b ha hb = (λ h. grind arith, elim [ inl e ↦ omega arith | inr e ↦ omega arith ])

pub bit_of_or : (a b p : ℕ) → (bit_at (bit_or a b) p ≡ 1) ↔ ((bit_at a p ≡ 1) ⊎ (bit_at b p ≡ 1))
bit_of_or a b p = rw bit_at_or (max_one (bit_at a p) (bit_at b p) (bit_at-lt a p) (bit_at-lt b p))

min_one : (a b : ℕ) → a < 2 → b < 2 → (min a b ≡ 1) ↔ ((a ≡ 1) × (b ≡ 1))
min_one a b ha hb = (λ h. (omega arith, omega arith), λ h. omega arith)

pub bit_of_and : (a b p : ℕ) → (bit_at (bit_and a b) p ≡ 1) ↔ ((bit_at a p ≡ 1) × (bit_at b p ≡ 1))
bit_of_and a b p = rw bit_at_and (min_one (bit_at a p) (bit_at b p) (bit_at-lt a p) (bit_at-lt b p))

-- a number of k bits has none from place k on
pub place_below : (a k p : ℕ) → a < 2 ^ k → bit_at a p ≡ 1 → p < k
place_below a k p fits here =
    let sides : (p < k) ⊎ (k ≤ p) = grind arith in
    elim sides [
      | inl below ↦ below
      | inr above ↦ let none = bit_at_above a k p fits above in absurd (differ _ here none)
    ]

flipped : (x y : ℕ) → y < 2 → x ≡ 1 - y → (x ≡ 1) ↔ (y ≡ 1 → ⊥)
flipped x y small is = (λ e one. omega arith, λ no. grind arith)

-- the test `a & !b`
pub bit_of_and_not : (a b p : ℕ) → a < 2 ^ 64 → b < 2 ^ 64 → (bit_at (bit_and a (2 ^ 64 - 1 - b)) p ≡ 1) ↔ ((bit_at a p ≡ 1) × (bit_at b p ≡ 1 → ⊥))
bit_of_and_not a b p fits_a fits_b = (
  λ e.
      let both = (bit_of_and a (2 ^ 64 - 1 - b) p).0 e in
      let not_bit = bit_at_not w64 b p fits_b (place_below a 64 p fits_a both.0) in
      (both.0, (flipped _ (bit_at b p) (bit_at-lt b p) not_bit).0 both.1),
  λ h.
      let not_bit = bit_at_not w64 b p fits_b (place_below a 64 p fits_a h.0) in
      (bit_of_and a (2 ^ 64 - 1 - b) p).1 (h.0, (flipped _ (bit_at b p) (bit_at-lt b p) not_bit).1 h.1),
)

pub bit_of_ones : (k p : ℕ) → (bit_at (2 ^ k - 1) p ≡ 1) ↔ (p < k)
bit_of_ones k p =
    let sides : (p < k) ⊎ (k ≤ p) = grind arith in
    elim sides [
      | inl below ↦ (λ e. below, λ h. bit_at_ones k p below)
      | inr above ↦ (λ e. let none = bit_at_ones_above k p above in absurd (differ _ e none), λ h. absurd (omega arith))
    ]

min_part : (x y : ℕ) → x < 2 → y < 2 → (y ≡ 1 → x ≡ 1) → min x y ≡ y
min_part x y hx hy f =
    let sides : (y ≡ 0) ⊎ (y ≡ 1) = grind arith in
    elim sides [ inl e ↦ omega arith | inr e ↦ let g = f e in omega arith ]

-- the test `a & b == b`
pub and_is_part : (a b : ℕ) → (bit_and a b ≡ b) ↔ ((p : ℕ) → bit_at b p ≡ 1 → bit_at a p ≡ 1)
and_is_part a b = (
  λ e p h. ((bit_of_and a b p).0 (ap (λ n. bit_at n p) e ∙ h)).0,
  λ f. same_from_bits (bit_and a b) b (λ i. bit_at_and a b i ∙ min_part (bit_at a i) (bit_at b i) (bit_at-lt a i) (bit_at-lt b i) (f i)),
)

same_bit : (x y : ℕ) → x < 2 → y < 2 → (x ≡ 1 → y ≡ 1) → (y ≡ 1 → x ≡ 1) → x ≡ y
same_bit x y hx hy f g =
    let sides : (x ≡ 0) ⊎ (x ≡ 1) = grind arith in
    elim sides [ inl e ↦ (let other : (y ≡ 0) ⊎ (y ≡ 1) = grind arith in elim other [ inl d ↦ omega arith | inr d ↦ g d ∙ sym d ]) | inr e ↦ e ∙ sym (f e) ]

-- two numbers with ones at the same places are equal
pub same_from_ones : (a b : ℕ) → ((p : ℕ) → bit_at a p ≡ 1 → bit_at b p ≡ 1) → ((p : ℕ) → bit_at b p ≡ 1 → bit_at a p ≡ 1) → a ≡ b
same_from_ones a b f g =
    same_from_bits a b (λ p. same_bit (bit_at a p) (bit_at b p) (bit_at-lt a p) (bit_at-lt b p) (f p) (g p))

-- the place that `n | 1 << k` adds
pub bit_of_set : (n k p : ℕ) → k < 64 → (bit_at (bit_or n (1 * 2 ^ k % 2 ^ 64)) p ≡ 1) ↔ ((bit_at n p ≡ 1) ⊎ (p ≡ k))
bit_of_set n k p within =
    let sides : (p ≡ k) ⊎ (p ≢ k) = grind arith in
    elim sides [
      | inl at ↦ (λ e. inr at, λ h. rw at (bit_at_set_same w64 n k within))
      | inr other ↦ let same = bit_at_set_other w64 n k within p other in (λ e. inl (sym same ∙ e), elim [ inl e ↦ same ∙ e | inr e ↦ absurd (other e) ])
    ]

pub below_from_shift : (n k : ℕ) → n / 2 ^ k ≡ 0 → n < 2 ^ k
below_from_shift n k e =
    let parts = shr_split n k in
    let small = mod_below n (2 ^ k) (pow_pos k) in
    omega (arith, parts, small, ap (λ x. x * 2 ^ k) e)

-- the test `n >> k == 0`
pub shifted_out : (n k : ℕ) → (n / 2 ^ k ≡ 0) ↔ ((p : ℕ) → bit_at n p ≡ 1 → p < k)
shifted_out n k = (
  λ e p here. place_below n k p (below_from_shift n k e) here,
  λ within.
      same_from_ones (n / 2 ^ k) 0
      (λ p here. absurd (let below = within (k + p) (rw (← shr-shr n k p) here) in omega arith))
      (λ p here. absurd (differ _ here (bit_at-zero p))),
)

-- only 0 has no ones
pub no_ones : (n : ℕ) → (n ≡ 0) ↔ ((p : ℕ) → bit_at n p ≡ 1 → ⊥)
no_ones n = (
  λ e p here. differ _ (ap (λ m. bit_at m p) (sym e) ∙ here) (bit_at-zero p),
  λ none. same_from_ones n 0 (λ p here. absurd (none p here)) (λ p here. absurd (differ _ here (bit_at-zero p))),
)

-- the test `x == y`
pub same_test : (x y : ℕ) → IsTrue (nat_eq x y) ↔ (x ≡ y)
same_test x y = grind (arith, nat_tests)

pub ones_below : (k : ℕ) → k < 64 → 1 * 2 ^ k % 2 ^ 64 - 1 ≡ 2 ^ k - 1
ones_below k h = let small : 2 ^ k < 2 ^ 64 = pow_below k 64 h in grind arith

-- a number is below its power
pub below_power : (n : ℕ) → n < 2 ^ n
below_power zero = omega arith
below_power (suc n) =
    let before = below_power n in
    let twice = pow-suc 2 n in
    omega arith
