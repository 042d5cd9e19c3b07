-- The grains of an application are found, row by row.
use Rattle.std.proofs.Common.{◌≡◌, ◌⊎◌, ◌↔◌, ◌+◌, ◌≤◌, ◌<◌, ◌++◌, ◌∷◌, [], ℕ, List, Some, length, slice_get, Contains, sym, subst, ap, inl, inr, arith}
use Rattle.std.proofs.lemmas.List.Elements.{Contains-append_left, Contains-push, Contains-push_cases}
use Rattle.host_base.specs.declared.ids.AppId.{AppId}
use Rattle.host_base.specs.declared.ids.GrainId.{GrainId}
use Rattle.share_graph.specs.declared.rows.Grain.{Grain}
use Rattle.share_graph.specs.Rows.{row}
use Rattle.least_access.proofs.Turns.{numbered, row_within, row_first}
use Rattle.region_work.proofs.Sums.{contains_none}

abbrev pub grain_id : ℕ → GrainId
grain_id n = record { 0 = n }

-- the grain is one of the first ones, and of the application
abbrev pub IsBelow : List Grain → AppId → ℕ → GrainId → Type 0
IsBelow grains p i n = (grain : Grain) × (row grains n.0 ≡ Some grain) × (grain.app ≡ p) × (n.0 ≤ i)

-- the list has exactly these
abbrev pub AreBelow : List Grain → AppId → ℕ → List GrainId → Type 0
AreBelow grains p i nums = (n : GrainId) → Contains nums n ↔ IsBelow grains p i n

pub none_below : (grains : List Grain) (p : AppId) → AreBelow grains p 0 []
none_below grains p n = (
  λ c. absurd (contains_none n c),
  λ (grain, is, of, below). (let first : 0 < n.0 = row_first grains n.0 grain is in absurd (omega arith)),
)

-- a grain among one more is among those, or it is the next one
below_next : (grains : List Grain) (p : AppId) (i : ℕ) (grain : Grain) → slice_get grains i ≡ Some grain → (n : GrainId) → IsBelow grains p (i + 1) n → IsBelow grains p i n ⊎ ((n ≡ grain_id (i + 1)) × (grain.app ≡ p))
below_next grains p i grain here n (other, is, of, below) =
    let sides : (n.0 ≤ i) ⊎ (n.0 ≡ i + 1) = grind arith in
    elim sides [
      | inl earlier ↦ inl (other, is, of, earlier)
      | inr last ↦
          let there : row grains (i + 1) ≡ Some other = subst (λ (k : ℕ). row grains k ≡ Some other) last is in
          let known : row grains (i + 1) ≡ Some grain = numbered grains i grain here in
          let one : other ≡ grain = cc in
          inr (ap (λ (k : ℕ). grain_id k) last, subst (λ (g : Grain). g.app ≡ p) one of)
    ]

pub one_taken : (grains : List Grain) (p : AppId) (i : ℕ) (grain : Grain) (nums : List GrainId) → slice_get grains i ≡ Some grain → grain.app ≡ p → AreBelow grains p i nums
    → AreBelow grains p (i + 1) (nums ++ grain_id (i + 1) ∷ [])
one_taken grains p i grain nums here of so_far n = (
  λ c.
      elim (Contains-push_cases nums (grain_id (i + 1)) n c) [
        | inl before ↦ (let (other, is, same, below) = (so_far n).0 before in (other, is, same, omega (arith, below)))
        | inr last ↦ subst (λ (k : GrainId). IsBelow grains p (i + 1) k) last (grain, numbered grains i grain here, of, omega arith)
      ],
  λ is.
      elim (below_next grains p i grain here n is) [
        | inl before ↦ Contains-append_left nums (grain_id (i + 1) ∷ []) n ((so_far n).1 before)
        | inr (last, same) ↦ subst (λ (k : GrainId). Contains (nums ++ grain_id (i + 1) ∷ []) k) (sym last) (Contains-push nums (grain_id (i + 1)))
      ],
)

pub one_passed : (grains : List Grain) (p : AppId) (i : ℕ) (grain : Grain) (nums : List GrainId) → slice_get grains i ≡ Some grain → (grain.app ≡ p → ⊥) → AreBelow grains p i nums → AreBelow grains p (i + 1) nums
one_passed grains p i grain nums here other so_far n = (
  λ c. (let (row, is, of, below) = (so_far n).0 c in (row, is, of, omega (arith, below))),
  λ is.
      elim (below_next grains p i grain here n is) [
        | inl before ↦ (so_far n).1 before
        | inr (last, same) ↦ absurd (other same)
      ],
)

pub all_below : (grains : List Grain) (p : AppId) (i : ℕ) (nums : List GrainId) → i ≡ length grains → AreBelow grains p i nums
    → (n : GrainId) → Contains nums n ↔ ((grain : Grain) × (row grains n.0 ≡ Some grain) × (grain.app ≡ p))
all_below grains p i nums end done n = (
  λ c. (let (grain, is, of, below) = (done n).0 c in (grain, is, of)),
  λ (grain, is, of). (let within = row_within grains n.0 grain is in (done n).1 (grain, is, of, omega arith)),
)
