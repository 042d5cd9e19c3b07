-- What a list keeps when one place is removed.
use Rattle.std.proofs.Common.{◌≡◌, Bool, true, false, List, [], ◌∷◌, length, refl, sym, ap, ◌∙◌, subst, arith}
use Rattle.std.specs.List.{filter, items_where_true}
use Rattle.std.specs.List.Retain.{IsFiltered, ReturnsInTurn}

module _ {X P : Type 0} (R : P → X → Bool → P → Type 0) (test : X → Bool) (at : P) (says : (x : X) (b : Bool) (q : P) → R at x b q → (b ≡ test x) × (q ≡ at)) where
  picked : (bs : List Bool) (xs : List X) (q : P) → length bs ≡ length xs → ReturnsInTurn R at bs xs q → items_where_true bs xs ≡ filter test xs
  picked [] [] q long turns = refl
  picked [] (x ∷ xs) q long turns = cc
  picked (b ∷ bs) [] q long turns = absurd turns
  picked (true ∷ bs) (x ∷ xs) q long (j, step, rest) =
      let s = says x true j step in
      let later : items_where_true bs xs ≡ filter test xs = picked bs xs q (omega (arith, long)) (subst (λ p. ReturnsInTurn R p bs xs q) s.1 rest) in
      rw (sym s.0) (ap (λ ys. x ∷ ys) later)
  picked (false ∷ bs) (x ∷ xs) q long (j, step, rest) =
      let s = says x false j step in
      let later : items_where_true bs xs ≡ filter test xs = picked bs xs q (omega (arith, long)) (subst (λ p. ReturnsInTurn R p bs xs q) s.1 rest) in
      rw (sym s.0) later

  -- what `retain` leaves, by a test that stays as it is
  pub filtered : (xs ys : List X) → IsFiltered R at xs ys → ys ≡ filter test xs
  filtered xs ys (bs, q, long, turns, is) = is ∙ picked bs xs q long turns
