use Rattle.std.proofs.Common.{◌≡◌, None, not, take}
use Rattle.app_manifest.specs.Places.{first_from}
use Rattle.app_manifest.specs.Upgrade.{has_name_at}
use Rattle.app_manifest.proofs.upgrading.lost_name.Given as goal

abbrev pub invariant-loop-place : goal.invariant-loop-place
invariant-loop-place l =
    first_from (λ place permission. not (has_name_at l.new place permission.name)) 0 (take l.place l.old) ≡ None
