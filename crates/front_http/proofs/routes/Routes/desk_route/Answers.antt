use Rattle.std.proofs.Common.{◌≡◌, None, ap, ◌∙◌}
use Rattle.matchit.specs.Seek.{first}
use Rattle.matchit.specs.Rows.{RowsOf}
use Rattle.matchit.specs.Router.{RouteOf}
use Rattle.front_http.specs.declared.route.Route.{Route}
use Rattle.front_http.specs.Tables.{desk_rows, value_of}
use Rattle.front_http.proofs.Tables.{desk_found}
use Rattle.front_http.proofs.Renumbering.{desk_fits, desk_whole}
use Rattle.front_http.proofs.routes.Routes.desk_route.Goals as goal

pub returns-in_err-route-clause-whole : goal.returns-in_err-route-clause-whole
returns-in_err-route-clause-whole c = λ found is.
    let rows_are : value_of (first c.self.inside.desk c.args.path.now) ≡ value_of (first desk_rows c.args.path.now) = ap (λ (rows : RowsOf (RouteOf Route)). value_of (first rows c.args.path.now)) c.self.invariant.0 in
    let has = desk_found found c.args.path.now is in
    let none : None ≡ value_of (first c.self.inside.desk c.args.path.now) = c.in_err-route.ensures in
    cc

pub returns-clause-found : goal.returns-clause-found
returns-clause-found c = desk_fits c.fit.result c.in_ok-route.route _ c.as_bytes.result.now c.args.path.now c.desk_texts.ensures c.as_bytes.ensures.value c.fit.ensures.found

pub returns-clause-whole : goal.returns-clause-whole
returns-clause-whole c = λ found is.
    let rows_are : value_of (first c.self.inside.desk c.args.path.now) ≡ value_of (first desk_rows c.args.path.now) = ap (λ (rows : RowsOf (RouteOf Route)). value_of (first rows c.args.path.now)) c.self.invariant.0 in
    desk_whole c.fit.result c.in_ok-route.route found _ c.as_bytes.result.now c.args.path.now (c.in_ok-route.ensures ∙ rows_are ∙ desk_found found c.args.path.now is) c.desk_texts.ensures c.as_bytes.ensures.value is c.fit.ensures.whole
