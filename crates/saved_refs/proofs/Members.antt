-- Lists in which each element stands before all later ones: one such list after another is one again, and its members make one such list.
use Rattle.std.proofs.Common.{◌≡◌, ◌∙◌, ◌⊎◌, ◌++◌, zero, suc, List, [], ◌∷◌, Contains, refl, sym, subst, arith, inl, inr}
use Rattle.std.specs.List.{AllPairs}
use Rattle.std.proofs.lemmas.List.Elements.{Contains-append_cases, Contains-get_or}
use Rattle.std.proofs.lemmas.List.Kept.{AllPairs-cons}
use Rattle.least_access.proofs.Kept.{first_before, rest_pairs}

module _ {X : Type 0} (R : X → X → Type 0) where
  pub pairs_append : (xs ys : List X) → AllPairs R xs → AllPairs R ys → ((x y : X) → Contains xs x → Contains ys y → R x y) → AllPairs R (xs ++ ys)
  pairs_append [] ys one other across = other
  pairs_append (x ∷ xs) ys one other across =
      AllPairs-cons R x (xs ++ ys) (λ k d less. elim (Contains-append_cases xs ys _ (Contains-get_or (xs ++ ys) k d less)) [
        | inl near ↦ first_before R x xs one _ near
        | inr far ↦ across x _ (zero, omega arith, refl) far
      ])
      (pairs_append xs ys (rest_pairs R x xs one) other (λ y z (k, less, is) far. across y z (suc k, omega arith, is) far))

module _ {X : Type 0} (R : X → X → Type 0) (apart : (x y : X) → R x y → R y x → ⊥) where
  cases : (x : X) (xs : List X) (z : X) → Contains (x ∷ xs) z → (x ≡ z) ⊎ Contains xs z
  cases x xs z (zero, less, is) = inl is
  cases x xs z (suc k, less, is) = inr (k, omega arith, is)

  same_first : (x y : X) (xs ys : List X) → AllPairs R (x ∷ xs) → AllPairs R (y ∷ ys) → Contains (y ∷ ys) x → Contains (x ∷ xs) y → x ≡ y
  same_first x y xs ys p q there back = elim (cases y ys x there) [
    | inl same ↦ sym same
    | inr after ↦ elim (cases x xs y back) [
      | inl same ↦ same
      | inr other ↦ absurd (apart x y (first_before R x xs p y other) (first_before R y ys q x after))
    ]
  ]

  others : (x y : X) (xs ys : List X) → x ≡ y → AllPairs R (x ∷ xs) → ((z : X) → Contains (x ∷ xs) z → Contains (y ∷ ys) z) → (z : X) → Contains xs z → Contains ys z
  others x y xs ys same p more z (k, less, is) = elim (cases y ys z (more z (suc k, omega arith, is))) [
    | inl at ↦ (let own : R x x = subst (λ (w : X). R x w) (sym at ∙ sym same) (first_before R x xs p z (k, less, is)) in absurd (apart x x own own))
    | inr among ↦ among
  ]

  pub one_list : (xs ys : List X) → AllPairs R xs → AllPairs R ys → ((z : X) → Contains xs z → Contains ys z) → ((z : X) → Contains ys z → Contains xs z) → xs ≡ ys
  one_list [] [] p q f g = refl
  one_list [] (y ∷ ys) p q f g = let (k, less, is) = g y (zero, omega arith, refl) in absurd (omega arith)
  one_list (x ∷ xs) [] p q f g = let (k, less, is) = f x (zero, omega arith, refl) in absurd (omega arith)
  one_list (x ∷ xs) (y ∷ ys) p q f g =
      let same : x ≡ y = same_first x y xs ys p q (f x (zero, omega arith, refl)) (g y (zero, omega arith, refl)) in
      let rest : xs ≡ ys = one_list xs ys (rest_pairs R x xs p) (rest_pairs R y ys q) (others x y xs ys same p f) (others y x ys xs (sym same) q g) in
      cc
