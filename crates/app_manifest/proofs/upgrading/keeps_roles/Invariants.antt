use Rattle.std.proofs.Common.{ℕ, ◌<◌}
use Rattle.app_manifest.specs.Upgrade.{IsInRole}
use Rattle.app_manifest.proofs.upgrading.keeps_roles.Given as goal

abbrev pub invariant-loop-place : goal.invariant-loop-place
invariant-loop-place l = (n p : ℕ) → n < l.place → IsInRole l.old n p → IsInRole l.new n p
