use Rattle.std.proofs.Common.{◌≡◌, drop}
use Rattle.bridge_headers.specs.Cookies.{names_domain}
use Rattle.bridge_headers.proofs.cookies.names_domain.Given as goal

abbrev pub invariant-loop-at : goal.invariant-loop-at
invariant-loop-at l = names_domain l.value ≡ names_domain (drop l.at l.value)
