-- A test of a list, one step on in a loop over it.
use Rattle.std.proofs.Common.{◌≡◌, ℕ, ◌+◌, ◌<◌, Bool, ◌&&◌, List, ◌∷◌, length, get_or, drop, sym, ap, ◌∙◌}
use Rattle.std.proofs.lemmas.List.{at_drop_more}

-- a test that each element passes
pub and_more : {X : Type 0} (F : List X → Bool) (p : X → Bool) → ((x : X) (xs : List X) → F (x ∷ xs) ≡ (p x && F xs)) → (xs : List X) (i : ℕ) (x : X) (b : Bool) → i < length xs → x ≡ get_or xs i x → p x ≡ b
    → F (drop i xs) ≡ (b && F (drop (i + 1) xs))
and_more F p step xs i x b within is passes =
    at_drop_more F xs i x within ∙ step (get_or xs i x) (drop (i + 1) xs) ∙ ap (λ c. c && F (drop (i + 1) xs)) (ap p (sym is) ∙ passes)
