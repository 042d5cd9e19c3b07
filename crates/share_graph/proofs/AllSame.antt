-- Rows that are each the same.
use Rattle.std.proofs.Common.{◌≡◌, List, [], ◌∷◌, refl}
use Rattle.std.specs.List.{AllZip}

pub all_same : {X : Type 0} (C : X → X → Type 0) (xs ys : List X) → ((x y : X) → C x y → y ≡ x) → AllZip C xs ys → ys ≡ xs
all_same C [] [] same zip = refl
all_same C [] (y ∷ ys) same zip = absurd zip
all_same C (x ∷ xs) [] same zip = absurd zip
all_same C (x ∷ xs) (y ∷ ys) same zip = λ i. same x y zip.0 i ∷ all_same C xs ys same zip.1 i
