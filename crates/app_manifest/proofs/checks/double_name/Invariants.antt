use Rattle.std.proofs.Common.{◌≡◌, None, take}
use Rattle.std.specs.List.{list_any}
use Rattle.std.specs.Str.{bytes_eq}
use Rattle.app_manifest.specs.Places.{first_from}
use Rattle.app_manifest.proofs.checks.double_name.Given as goal

abbrev pub invariant-loop-place : goal.invariant-loop-place
invariant-loop-place l =
    first_from (λ place permission. list_any (λ earlier. bytes_eq permission.name earlier.name) (take place l.permissions)) 0 (take l.place l.permissions) ≡ None
