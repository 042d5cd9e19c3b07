-- The ascending list of the numbers that pass a test.
use Rattle.std.proofs.Common.{◌≡◌, ◌⊎◌, ◌↔◌, ℕ, zero, suc, ◌+◌, ◌/◌, ◌%◌, ◌^◌, ◌<◌, ◌≤◌, Bool, true, false, cond, ◌==◌, List, ◌∷◌, length, filter, Contains, refl, sym, ap, ◌∙◌, subst, inl, inr, add-one, arith}
use Rattle.std.specs.Int.{bit_at}
use Rattle.std.specs.Prelude.{nat_eq}
use Rattle.std.specs.List.{range_with_len}
use Rattle.std.specs.List.Sorted.{IsStrictlyIncreasing}
use Rattle.std.proofs.lemmas.Nat.Bits.{bit_at-lt, bit_at_lowest, bit_at-suc}
use Rattle.std.proofs.lemmas.List.Elements.{filter_agree}
use Rattle.std.proofs.lemmas.List.Kept.{IsStrictlyIncreasing-filter}
use Rattle.std.proofs.lemmas.List.FromFn.{length-range_with_len, get_or-range_with_len}
use Rattle.std.proofs.lemmas.Bool.Decides.{nat_tests}
use lib.Count.{ones, ones_step, ones-le}

Contains-cons : (x : ℕ) (xs : List ℕ) (p : ℕ) → Contains (x ∷ xs) p ↔ ((x ≡ p) ⊎ Contains xs p)
Contains-cons x xs p = (forth, elim [ inl e ↦ (0, omega arith, e) | inr w ↦ (suc w.0, omega arith, w.2) ])
  where
    forth : Contains (x ∷ xs) p → (x ≡ p) ⊎ Contains xs p
    forth (zero, below, e) = inl e
    forth (suc k, below, e) = inr (k, omega arith, e)

Contains-cond : (b : Bool) (x : ℕ) (xs : List ℕ) (p : ℕ) → Contains (cond b (x ∷ xs) xs) p ↔ (((b ≡ true) × (x ≡ p)) ⊎ Contains xs p)
Contains-cond true x xs p = (
  λ h. elim ((Contains-cons x xs p).0 h) [ inl e ↦ inl (refl, e) | inr w ↦ inr w ],
  elim [ inl e ↦ (Contains-cons x xs p).1 (inl e.1) | inr w ↦ (Contains-cons x xs p).1 (inr w) ],
)
Contains-cond false x xs p = (λ h. inr h, elim [ inl e ↦ absurd (cc e.0) | inr w ↦ w ])

-- the list has the numbers of the range that pass
pub listing_has : (f : ℕ → Bool) (a n p : ℕ) → Contains (filter f (range_with_len a n)) p ↔ ((f p ≡ true) × (a ≤ p) × (p < a + n))
listing_has f a zero p = (λ h. absurd (omega (arith, h.1)), λ h. absurd (omega arith))
listing_has f a (suc n) p =
    let later = listing_has f (a + 1) n p in
    let here = Contains-cond (f a) a (filter f (range_with_len (a + 1) n)) p in (
      λ h. elim (here.0 h) [
        | inl e ↦ (subst (λ x. f x ≡ true) e.1 e.0, omega arith, omega arith)
        | inr w ↦ let r = later.0 w in (r.0, omega arith, omega arith)
      ],
      λ h.
          let sides : (a ≡ p) ⊎ (a + 1 ≤ p) = grind arith in
          elim sides [
            | inl e ↦ here.1 (inl (subst (λ x. f x ≡ true) (sym e) h.0, e))
            | inr above ↦ here.1 (inr (later.1 (h.0, above, omega arith)))
          ],
    )

pub listing_ascends : (f : ℕ → Bool) (a n : ℕ) → IsStrictlyIncreasing (filter f (range_with_len a n))
listing_ascends f a n =
    IsStrictlyIncreasing-filter f (range_with_len a n) (λ k below.
    let long = length-range_with_len a n in
    let one = get_or-range_with_len a n k 0 (omega arith) in
    let two = get_or-range_with_len a n (k + 1) 0 (omega arith) in
    omega arith)

length-cond : (b : Bool) (x : ℕ) (xs : List ℕ) → length (cond b (x ∷ xs) xs) ≡ cond b 1 0 + length xs
length-cond true x xs = omega arith
length-cond false x xs = omega arith

-- a number that passes and is listed once more
listing_shift : (f : ℕ → Bool) (a n : ℕ) → length (filter f (range_with_len (a + 1) n)) ≡ length (filter (λ k. f (k + 1)) (range_with_len a n))
listing_shift f a zero = refl
listing_shift f a (suc n) =
    let rest = listing_shift f (a + 1) n in
    length-cond (f (a + 1)) (a + 1) (filter f (range_with_len (a + 1 + 1) n))
    ∙ ap (λ x. cond (f (a + 1)) 1 0 + x) rest
    ∙ sym (length-cond (f (a + 1)) a (filter (λ k. f (k + 1)) (range_with_len (a + 1) n)))

lowest_bit : (n : ℕ) → n % 2 ≡ cond (nat_eq (bit_at n 0) 1) 1 0
lowest_bit n =
    let is = bit_at_lowest n in
    let small = bit_at-lt n 0 in
    grind (arith, nat_tests)

-- `count_ones` counts the places that are listed
pub ones_listing : (k n : ℕ) → n < 2 ^ k → ones n ≡ length (filter (λ p. bit_at n p == 1) (range_with_len 0 k))
ones_listing zero n h = let few = ones-le 0 n h in omega arith
ones_listing (suc k) n h =
    let rest = ones_listing k (n / 2) (omega arith) in
    let agree = filter_agree (λ p. nat_eq (bit_at (n / 2) p) 1) (λ p. nat_eq (bit_at n (p + 1)) 1) (λ p. rw add-one (ap (λ x. nat_eq x 1) (sym (bit_at-suc n p)))) (range_with_len 0 k) in
    ones_step n
    ∙ ap (λ x. n % 2 + x) (rest ∙ ap length agree ∙ sym (listing_shift (λ p. nat_eq (bit_at n p) 1) 0 k))
    ∙ ap (λ x. x + length (filter (λ p. nat_eq (bit_at n p) 1) (range_with_len (0 + 1) k))) (lowest_bit n)
    ∙ sym (length-cond (nat_eq (bit_at n 0) 1) 0 (filter (λ p. nat_eq (bit_at n p) 1) (range_with_len (0 + 1) k)))

part_of : (b c : Bool) → (b ≡ true → c ≡ true) → cond b 1 0 ≤ cond c 1 0
part_of true c f = rw (f refl) (omega arith)
part_of false c f = omega arith

-- where all that passes one test passes the other, no fewer are listed
pub listing_part : (f g : ℕ → Bool) (a n : ℕ) → ((p : ℕ) → f p ≡ true → g p ≡ true) → length (filter f (range_with_len a n)) ≤ length (filter g (range_with_len a n))
listing_part f g a zero more = omega arith
listing_part f g a (suc n) more =
    let rest = listing_part f g (a + 1) n more in
    let here = part_of (f a) (g a) (more a) in
    let one = length-cond (f a) a (filter f (range_with_len (a + 1) n)) in
    let two = length-cond (g a) a (filter g (range_with_len (a + 1) n)) in
    omega arith

same_of : (b c : Bool) → cond c 1 0 ≤ cond b 1 0 → c ≡ true → b ≡ true
same_of true c h e = refl
same_of false true h e = absurd (omega arith)
same_of false false h e = e

-- and where as many are listed, the two tests agree
pub listing_same : (f g : ℕ → Bool) (a n : ℕ) → ((p : ℕ) → f p ≡ true → g p ≡ true) → length (filter g (range_with_len a n)) ≡ length (filter f (range_with_len a n))
    → (p : ℕ) → a ≤ p → p < a + n → g p ≡ true → f p ≡ true
listing_same f g a zero more same p low high e = absurd (omega arith)
listing_same f g a (suc n) more same p low high e =
    let rest = listing_part f g (a + 1) n more in
    let here = part_of (f a) (g a) (more a) in
    let one = length-cond (f a) a (filter f (range_with_len (a + 1) n)) in
    let two = length-cond (g a) a (filter g (range_with_len (a + 1) n)) in
    let sides : (a ≡ p) ⊎ (a + 1 ≤ p) = grind arith in
    elim sides [
      | inl at ↦ subst (λ x. f x ≡ true) at (same_of (f a) (g a) (omega arith) (subst (λ x. g x ≡ true) (sym at) e))
      | inr above ↦ listing_same f g (a + 1) n more (omega arith) p above (omega arith) e
    ]
