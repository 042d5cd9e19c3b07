use Rattle.std.proofs.Common.{◌≡◌, [], fold, take}
use Rattle.front_http.specs.Tables.{with_route}
use Rattle.front_http.proofs.routes.router_of.Given as goal

abbrev pub invariant-loop-text : goal.invariant-loop-text
invariant-loop-text l = l.router ≡ fold (λ rows e. with_route rows e.0.now e.1) [] (take l.text-index l.paths)
