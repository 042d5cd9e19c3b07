use Rattle.std.proofs.Common.{◌≡◌, map, take}
use Rattle.listings.proofs.of_apps.names_of.Given as goal

abbrev pub invariant-loop-permission : goal.invariant-loop-permission
invariant-loop-permission l = l.names.items ≡ map (λ permission. permission.name) (take l.permission-index l.permissions)
