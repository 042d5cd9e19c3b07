use Rattle.std.proofs.Common.{◌≡◌, ap, sym, subst, ◌∙◌}
use Rattle.front_http.specs.Routes.{Host, Grain, Desk, IsRouteAt, host_kind}
use Rattle.front_http.proofs.routes.Routes.route.Goals as goal

pub returns-in-Grain-clause-whole : goal.returns-in-Grain-clause-whole
returns-in-Grain-clause-whole c = λ found is.
    let request = c.args.request.now in
    let kind : host_kind request.host ≡ Grain = ap host_kind (sym c.as_slice.ensures.value) ∙ sym c.in-Grain.ensures.kind in
    let here : IsRouteAt Grain request found = subst (λ (host : Host). IsRouteAt host request found) kind is in
    c.of_grain.ensures.whole found here

pub returns-in-Desk-clause-whole : goal.returns-in-Desk-clause-whole
returns-in-Desk-clause-whole c = λ found is.
    let request = c.args.request.now in
    let kind : host_kind request.host ≡ Desk = ap host_kind (sym c.as_slice.ensures.value) ∙ sym c.in-Desk.ensures.kind in
    let here : IsRouteAt Desk request found = subst (λ (host : Host). IsRouteAt host request found) kind is in
    c.of_desk.ensures.whole found here
