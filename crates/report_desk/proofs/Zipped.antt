-- Two lists that are alike place by place, one more of each.
use Rattle.std.proofs.Common.{◌≡◌, ◌+◌, ◌<◌, ◌≤◌, ◌++◌, ◌∷◌, [], ℕ, List, take, length, get_or, sym, ap, ◌∙◌, subst}
use Rattle.std.specs.List.{AllZip}
use Rattle.std.proofs.lemmas.List.{take_more, take_all}

module _ {A B : Type 0} (R : A → B → Type 0) where
  zip_push : (xs : List A) (ys : List B) (x : A) (y : B) → AllZip R xs ys → R x y → AllZip R (xs ++ x ∷ []) (ys ++ y ∷ [])
  zip_push [] [] x y all one = (one, tt)
  zip_push [] (w ∷ ys) x y all one = absurd all
  zip_push (z ∷ xs) [] x y all one = absurd all
  zip_push (z ∷ xs) (w ∷ ys) x y all one = (all.0, zip_push xs ys x y all.1 one)

  pub zip_more : (xs : List A) (ys more : List B) (i : ℕ) (x : A) (y : B) → i < length xs → x ≡ get_or xs i x → AllZip R (take i xs) ys → R x y → more ≡ ys ++ y ∷ []
      → AllZip R (take (i + 1) xs) more
  zip_more xs ys more i x y less is all one added =
      let front : take (i + 1) xs ≡ take i xs ++ x ∷ [] = take_more xs i x less ∙ ap (λ z. take i xs ++ z ∷ []) (sym is) in
      subst (λ (zs : List B). AllZip R (take (i + 1) xs) zs) (sym added) (subst (λ (zs : List A). AllZip R zs (ys ++ y ∷ [])) (sym front) (zip_push (take i xs) ys x y all one))

  pub zip_all : (xs : List A) (ys : List B) (i : ℕ) → length xs ≤ i → AllZip R (take i xs) ys → AllZip R xs ys
  zip_all xs ys i end all = subst (λ (zs : List A). AllZip R zs ys) (take_all i xs end) all
