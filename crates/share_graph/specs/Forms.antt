-- How checks are put in a row. Each form is one check: it says which answer is given where the check decides, and what comes
-- after it where it doesn't. So a row of checks gives the answer of the first one that decides.
use Rattle.std.specs.Prelude.{◌≡◌, ◌⊎◌, List, Option, Some, None}
use Rattle.share_graph.specs.Keys.{IsOneOf, IsNoneOf}

-- this answer
abbrev pub answers : {A : Type 0} → A → A → Type 0
answers answer a = a ≡ answer

-- the answer where the fact holds
abbrev pub when◌then◌else◌ : {A : Type 0} → Type 0 → A → (A → Type 0) → A → Type 0
when◌then◌else◌ P answer Rest a = ((a ≡ answer) × P) ⊎ ((P → ⊥) × Rest a)

infixr 10 when◌then◌else◌
-- the answer where the fact doesn't hold
abbrev pub unless◌then◌else◌ : {A : Type 0} → Type 0 → A → (A → Type 0) → A → Type 0
unless◌then◌else◌ P answer Rest a = ((a ≡ answer) × (P → ⊥)) ⊎ (P × Rest a)

infixr 10 unless◌then◌else◌
-- an answer of these; or the fact holds, and the rest
abbrev pub must◌or◌then◌ : {A : Type 0} → Type 0 → (A → Type 0) → (A → Type 0) → A → Type 0
must◌or◌then◌ P Answers Rest a = Answers a ⊎ (P × Rest a)

infixr 10 must◌or◌then◌
-- an answer of these; or this is found, and the rest is about it
abbrev pub found◌or◌then◌ : {A X : Type 0} → (X → Type 0) → (A → Type 0) → (X → A → Type 0) → A → Type 0
found◌or◌then◌ P Answers Rest a = Answers a ⊎ ((x : _) × P x × Rest x a)

infixr 10 found◌or◌then◌
-- the answer where nothing is so
abbrev pub none : {A X : Type 0} → (X → Type 0) → A → A → Type 0
none {A} {X} P answer a = (a ≡ answer) × ((x : X) → P x → ⊥)

-- the answer where no row of the list is so; or one is, and the rest is about it
abbrev pub some◌of◌or◌then◌ : {A X : Type 0} → (X → Type 0) → List X → A → (X → A → Type 0) → A → Type 0
some◌of◌or◌then◌ P rows answer Rest a = ((a ≡ answer) × IsNoneOf rows P) ⊎ ((x : _) × IsOneOf rows P x × Rest x a)

infixr 10 some◌of◌or◌then◌
-- an answer that is something of these; or they have none, and the rest
abbrev pub first◌then◌ : {A : Type 0} → (Option A → Type 0) → (Option A → Type 0) → Option A → Type 0
first◌then◌ {A} Answers Rest a = ((x : A) × (a ≡ Some x) × Answers (Some x)) ⊎ (Answers None × Rest a)

infixr 10 first◌then◌
-- a relation with one answer at the most
pub record IsOne {A : Type 0} (R : A → Type 0) : Type 0 where
  pub one : (a b : A) → R a → R b → a ≡ b
