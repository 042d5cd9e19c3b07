use Rattle.std.proofs.Common.{arith, ◌<◌, ◌≤◌, ◌+◌, ◌*◌, ◌^◌, ℕ, suc, inl, inr}
use Rattle.std.proofs.lemmas.Bool.{cases_lt}
use Rattle.std.proofs.Math.Nat.{pow-succ'}
use Rattle.std.proofs.Math.Pow.{pow_mono}
use Rattle.share_graph.specs.Rooms.{IsBetweenPowers, HasRoom}

-- a power of two that isn't above such a number is at most the power below it
pub below_between : (n k j : ℕ) → n < 2 * 2 ^ k → 2 ^ j < n + 1 → j ≤ k
below_between n k j high low = elim (cases_lt k j) [
  | inl above ↦ absurd (omega (arith, high, low, pow_mono {i = suc k} {j = j} above, pow-succ' 2 k))
  | inr within ↦ within
]

pub roomy_next : (n capacity : ℕ) → IsBetweenPowers n → HasRoom n capacity → HasRoom (n + 1) capacity
roomy_next n capacity (k, low, high) (fits, twice) = (
  omega (arith, high, twice k low),
  λ j below. omega (arith, twice k low, pow_mono (below_between n k j high below)),
)

pub roomy_more : (n capacity more : ℕ) → HasRoom n capacity → capacity ≤ more → HasRoom n more
roomy_more n capacity more (fits, twice) le = (omega (arith, fits, le), λ j below. omega (arith, twice j below, le))
