use Rattle.std.proofs.Common.{◌≡◌, map, take}
use Rattle.listings.specs.Lines.{role_line}
use Rattle.listings.proofs.of_apps.roles_of.Given as goal

abbrev pub invariant-loop-role : goal.invariant-loop-role
invariant-loop-role l = l.lines.items ≡ map role_line (take l.role-index l.roles)
