-- What is known of a clock.
use Rattle.std.specs.Prelude.{◌≡◌, ℕ, List, [], ◌∷◌, Option, Some}

-- the moments still to come, once the first was told: the last one stays
abbrev pub told_on : List ℕ → List ℕ
told_on [] = []
told_on (moment ∷ []) = moment ∷ []
told_on (moment ∷ (next ∷ moments)) = next ∷ moments

-- From moments to come, the first was told; the others are to come, or it again where it is the only one.
abbrev pub Ticks : Option (List ℕ) → Option (List ℕ) → ℕ → Type 0
Ticks old new moment = (coming : List ℕ) → old ≡ Some coming → ((later : List ℕ) × (coming ≡ moment ∷ later)) × (new ≡ Some (told_on coming))
