use Rattle.std.proofs.Common.{◌≡◌, Some, None, refl, inr}
use Rattle.front_http.specs.declared.route.Route.{Route}
use Rattle.cloud_serve.proofs.showing.find_showing.Goals as goal

none_some : (found : Route) → None ≡ Some found → ⊥
none_some found is = cc

pub returns-in-None : goal.returns-in-None
returns-in-None c = inr (λ found is. none_some found (c.in-None.ensures.whole found is), refl)
