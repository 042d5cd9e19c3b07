-- An aid for the contracts of the private functions that build and ask the routers.
use Rattle.std.specs.Prelude.{ℕ, List, [], Option, Result, Ok, Err, fold, option_map}
use Rattle.matchit.specs.Rows.{RowsOf}
use Rattle.matchit.specs.Order.{placed}
use Rattle.matchit.specs.Route.{Scan, parse_route}
use Rattle.matchit.specs.Router.{RouteOf, route_from}
use Rattle.matchit.specs.declared.error.InsertError.{InsertError}
use Rattle.front_http.specs.declared.route.Route.{Route}
use Rattle.front_http.specs.declared.routes.TheConstants.{DESK_PATHS, GRAIN_PATHS}

-- rows with one more route
abbrev pub with_scan : RowsOf (RouteOf Route) → Route → Result Scan InsertError → RowsOf (RouteOf Route)
with_scan rows value (Ok scan) = placed (scan.pattern, route_from scan value) rows
with_scan rows value (Err error) = rows

abbrev pub with_route : RowsOf (RouteOf Route) → List ℕ → Route → RowsOf (RouteOf Route)
with_route rows text value = with_scan rows value (parse_route text)

-- the rows of the desk's router, and those of a running grain's
unfoldable pub desk_rows : RowsOf (RouteOf Route)
desk_rows = fold (λ rows e. with_route rows e.0.now e.1) [] DESK_PATHS

unfoldable pub grain_rows : RowsOf (RouteOf Route)
grain_rows = fold (λ rows e. with_route rows e.0.now e.1) [] GRAIN_PATHS

-- what a router has for a path
abbrev pub value_of : Option (RouteOf Route) → Option Route
value_of found = option_map (λ (found : RouteOf Route). found.value) found
