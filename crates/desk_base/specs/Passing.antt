-- An aid for the proofs of the checks: what a test tells of the word of the table that it stands for.
use Rattle.std.specs.Prelude.{◌≡◌}
use Rattle.desk_base.specs.Terms.{Refusal}
use Rattle.desk_base.specs.Steps.{Step, Refuses}

-- the word lets this through, whatever the rest comes to
abbrev pub Passes : {X : Type 0} → ((X → Step → Type 0) → Step → Type 0) → X → Type 0
Passes Word x = (step : Step) → Word (λ y any. y ≡ x) step

-- the word itself refuses
abbrev pub Fails : {X : Type 0} → ((X → Step → Type 0) → Step → Type 0) → Refusal → Type 0
Fails Word r = Word (λ y any. ⊥) (Refuses r)
