use Rattle.std.proofs.Common.{◌≡◌, ◌↔◌, ℕ, ◌<◌, true, slice_get, Some}
use Rattle.std.specs.Int.{bit_at}
use Rattle.perm_roles.proofs.perm_set.PermSet.from_list.Given as goal

abbrev pub invariant-loop-place : goal.invariant-loop-place
invariant-loop-place l = (p : ℕ) → (bit_at l.bits p ≡ 1) ↔ ((p < l.place) × (slice_get l.list p ≡ Some true))
