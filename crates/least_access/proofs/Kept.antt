-- What is made of a list in which each element stands before all later ones is such a list again.
use Rattle.std.proofs.Common.{◌≡◌, zero, suc, List, [], ◌∷◌, Contains, Option, Some, None, refl, subst, arith}
use Rattle.std.specs.List.{AllPairs, cons_option, filter_map}
use Rattle.std.proofs.lemmas.List.Elements.{Contains-get_or}
use Rattle.std.proofs.lemmas.List.Kept.{AllPairs-cons}
use Rattle.share_graph.proofs.Unused.{unfiltered}

module _ {X : Type 0} (R : X → X → Type 0) where
  pub first_before : (x : X) (xs : List X) → AllPairs R (x ∷ xs) → (z : X) → Contains xs z → R x z
  first_before x xs pairs z (k, less, is) = subst (λ (w : X). R x w) is (pairs zero (suc k) z (omega arith) (omega arith))

  pub rest_pairs : (x : X) (xs : List X) → AllPairs R (x ∷ xs) → AllPairs R xs
  rest_pairs x xs pairs i j d less within = pairs (suc i) (suc j) d (omega arith) (omega arith)

module _ {X Y : Type 0} (R : X → X → Type 0) (S : Y → Y → Type 0) (f : X → Option Y) (keeps : (x z : X) (y w : Y) → f x ≡ Some y → f z ≡ Some w → R x z → S y w) where
  kept_more : (x : X) (xs : List X) (o : Option Y) → f x ≡ o → AllPairs R (x ∷ xs) → AllPairs S (filter_map f xs) → AllPairs S (cons_option o (filter_map f xs))
  kept_more x xs None is pairs rest = rest
  kept_more x xs (Some y) is pairs rest =
      AllPairs-cons S y (filter_map f xs) (λ k d less.
      let (z, listed, made) = unfiltered f xs _ (Contains-get_or (filter_map f xs) k d less) in
      keeps x z y _ is made (first_before R x xs pairs z listed)) rest

  pub pairs_kept : (xs : List X) → AllPairs R xs → AllPairs S (filter_map f xs)
  pairs_kept [] pairs = λ i j d less within. absurd (omega arith)
  pairs_kept (x ∷ xs) pairs = kept_more x xs (f x) refl pairs (pairs_kept xs (rest_pairs R x xs pairs))
