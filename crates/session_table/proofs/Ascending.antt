-- Ascending lists of the same numbers are one list.
use Rattle.std.proofs.Common.{◌≡◌, ◌<◌, ◌⊎◌, ◌↔◌, ℕ, zero, suc, List, [], ◌∷◌, Contains, length, get_or, refl, sym, inl, inr, arith, add-one}
use Rattle.std.specs.List.Sorted.{IsStrictlyIncreasing}
use Rattle.std.proofs.lemmas.List.Elements.{Contains-append_right}

abbrev Rises : List ℕ → Type 0
Rises xs = (k : ℕ) → suc k < length xs → get_or xs k 0 < get_or xs (suc k) 0

rises : (xs : List ℕ) → IsStrictlyIncreasing xs → Rises xs
rises xs up k less = rw add-one at (up k (rw add-one less))

tail_rises : (x : ℕ) (xs : List ℕ) → Rises (x ∷ xs) → Rises xs
tail_rises x xs up k less = up (suc k) (omega arith)

-- the first is below the others
head_below : (x : ℕ) (xs : List ℕ) → Rises (x ∷ xs) → (k : ℕ) → k < length xs → x < get_or xs k 0
head_below x [] up k less = absurd (omega arith)
head_below x (y ∷ ys) up zero less = up zero (omega arith)
head_below x (y ∷ ys) up (suc k) less =
    let first : x < y = up zero (omega arith) in
    let rest : y < get_or ys k 0 = head_below y ys (tail_rises x (y ∷ ys) up) k (omega arith) in
    omega arith

below_all : (x p : ℕ) (xs : List ℕ) → Rises (x ∷ xs) → Contains xs p → x < p
below_all x p xs up (k, less, is) = let below = head_below x xs up k less in let same : get_or xs k 0 ≡ p = at k less is in omega arith
  where
    at : (k : ℕ) → k < length xs → get_or xs k p ≡ p → get_or xs k 0 ≡ p
    at k less is = get_or_any xs k less is
      where
        get_or_any : (xs : List ℕ) (k : ℕ) → k < length xs → get_or xs k p ≡ p → get_or xs k 0 ≡ p
        get_or_any [] k less is = absurd (omega arith)
        get_or_any (y ∷ ys) zero less is = is
        get_or_any (y ∷ ys) (suc k) less is = get_or_any ys k (omega arith) is

here : (x : ℕ) (xs : List ℕ) → Contains (x ∷ xs) x
here x xs = (zero, omega arith, refl)

later : (x p : ℕ) (xs : List ℕ) → Contains xs p → Contains (x ∷ xs) p
later x p xs c = Contains-append_right (x ∷ []) xs p c

first_or_later : (x p : ℕ) (xs : List ℕ) → Contains (x ∷ xs) p → (x ≡ p) ⊎ Contains xs p
first_or_later x p xs (zero, less, is) = inl is
first_or_later x p xs (suc k, less, is) = inr (k, omega arith, is)

same_rising : (xs ys : List ℕ) → Rises xs → Rises ys → ((p : ℕ) → Contains xs p ↔ Contains ys p) → xs ≡ ys
same_rising [] [] up rise same = refl
same_rising [] (y ∷ ys) up rise same = let odd = (same y).1 (here y ys) in absurd (omega (arith, odd.1))
same_rising (x ∷ xs) [] up rise same = let odd = (same x).0 (here x xs) in absurd (omega (arith, odd.1))
same_rising (x ∷ xs) (y ∷ ys) up rise same =
    let heads : x ≡ y = elim (first_or_later y x ys ((same x).0 (here x xs))) [
      | inl e ↦ sym e
      | inr c ↦ elim (first_or_later x y xs ((same y).1 (here y ys))) [
        | inl e ↦ e
        | inr d ↦ let less = below_all y x ys rise c in let more = below_all x y xs up d in absurd (omega arith)
      ]
    ] in
    let rest : xs ≡ ys = same_rising xs ys (tail_rises x xs up) (tail_rises y ys rise) (λ p. (
      λ c. elim (first_or_later y p ys ((same p).0 (later x p xs c))) [
        | inl e ↦ let less = below_all x p xs up c in absurd (omega arith)
        | inr d ↦ d
      ],
      λ c. elim (first_or_later x p xs ((same p).1 (later y p ys c))) [
        | inl e ↦ let less = below_all y p ys rise c in absurd (omega arith)
        | inr d ↦ d
      ],
    )) in
    cc

pub same_ascending : (xs ys : List ℕ) → IsStrictlyIncreasing xs → IsStrictlyIncreasing ys → ((p : ℕ) → Contains xs p ↔ Contains ys p) → xs ≡ ys
same_ascending xs ys up rise same = same_rising xs ys (rises xs up) (rises ys rise) same
