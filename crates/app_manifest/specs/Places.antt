-- The first place of a list that passes a test.
use Rattle.std.specs.Prelude.{ℕ, suc, Bool, List, [], ◌∷◌, Option, Some, None, if◌then◌else◌}

-- the first place whose element passes a test of the place and the element, where the list begins at a place
abbrev pub first_from : {A : Type 0} → (ℕ → A → Bool) → ℕ → List A → Option ℕ
first_from test place [] = None
first_from test place (x ∷ xs) = if test place x then Some place else first_from test (suc place) xs
