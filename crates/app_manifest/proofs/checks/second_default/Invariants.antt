use Rattle.std.proofs.Common.{◌≡◌, ◌&&◌, None, take}
use Rattle.std.specs.List.{list_any}
use Rattle.app_manifest.specs.Places.{first_from}
use Rattle.app_manifest.proofs.checks.second_default.Given as goal

abbrev pub invariant-loop-place : goal.invariant-loop-place
invariant-loop-place l =
    first_from (λ place role. role.default && list_any (λ earlier. earlier.default) (take place l.roles)) 0 (take l.place l.roles) ≡ None
