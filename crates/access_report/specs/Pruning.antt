-- An aid for the proof: the steps on which a step rests, and what is left of a list of steps.
use Rattle.std.specs.Prelude.{◌≡◌, ◌+◌, ◌<◌, ◌⊎◌, ◌++◌, ◌∷◌, [], ℕ, Bool, true, false, List, Some, Contains, length, slice_get, slice_index_or}
use Rattle.share_graph.specs.declared.state.Tables.{Tables}
use Rattle.access_report.specs.declared.step.Step.{Step}
use Rattle.access_report.specs.Explaining.{Concludes, EachIsNamed}
use Rattle.access_report.specs.Steps.{AreSound}

-- the place is marked
abbrev pub IsMarked : List Bool → ℕ → Type 0
IsMarked marks k = slice_index_or marks k false ≡ true

-- where a place is marked, each earlier place that its step names is marked
abbrev pub IsMarkedAt : List Step → List Bool → ℕ → Type 0
IsMarkedAt steps marks i = (step : Step) (p : ℕ) → IsMarked marks i → slice_get steps i ≡ Some step → Contains step.from p → p < i → IsMarked marks p

-- a later step that is marked names the place
abbrev pub IsNamed : List Step → List Bool → ℕ → Type 0
IsNamed steps marks k = (i : ℕ) × (step : Step) × (k < i) × IsMarked marks i × (slice_get steps i ≡ Some step) × Contains step.from k

-- Marks on the steps up to the last one: on that one, and on each on which one that is marked rests.
pub record AreMarks (steps : List Step) (last : ℕ) (marks : List Bool) : Type 0 where
  pub long : length marks ≡ last + 1
  pub last_marked : IsMarked marks last
  pub closed : (i : ℕ) → IsMarkedAt steps marks i
  pub only : (k : ℕ) → IsMarked marks k → (k ≡ last) ⊎ IsNamed steps marks k

-- where a place of the list was moved to is in the other list
abbrev pub AreMoved : List ℕ → List ℕ → List ℕ → Type 0
AreMoved places from to = (p k : ℕ) → Contains from p → slice_get places p ≡ Some k → Contains to k

-- the step is added, with its places as they were moved
pub record IsKeptAs (places : List ℕ) (step : Step) (old new : List Step) : Type 0 where
  pub to : List ℕ
  pub moved : AreMoved places step.from to
  pub more : new ≡ old ++ record { node = step.node; fact = step.fact; grant = step.grant; from = to } ∷ []

-- it is added where it is marked
pub record IsKeptIf (marked : Bool) (places : List ℕ) (step : Step) (old new : List Step) : Type 0 where
  pub kept : marked ≡ true → IsKeptAs places step old new
  pub same : marked ≡ false → new ≡ old

-- Steps that are sound where those that they were taken from are, and conclude what the last one of these says.
pub record IsPruned (steps : List Step) (last : ℕ) (kept : List Step) : Type 0 where
  pub sound : (t : Tables) → AreSound t steps → AreSound t kept
  pub needed : EachIsNamed kept
  pub concludes : (step : Step) → slice_get steps last ≡ Some step → Concludes kept step.node step.fact
