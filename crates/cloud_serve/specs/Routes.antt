-- What a request shows, and so how it is answered.
use Rattle.std.specs.Prelude.{◌≡◌, ◌⊎◌, ℕ, List, ◌∷◌, Option, Some, None, Result, Ok, Err}
use Rattle.cloud_serve.specs.Terms.{BodyFault, Digest, IsRoute, IsUse, Request, Route, Showing}
use Rattle.host_base.specs.declared.key.Key.TheVariants as key
use Rattle.front_http.specs.declared.route.Route.TheVariants as route
use Rattle.desk_bodies.specs.declared.fault.BodyFault.TheVariants as fault
use Rattle.cloud_serve.specs.declared.showing.Showing.TheVariants as showing
use Rattle.cloud_serve.specs.Commands.{asked_at}

-- what a body comes to on a route: what is asked for, or the fault of the body; or nothing may be asked for there
abbrev pub IsAsked : Option (Result Showing BodyFault) → Showing → Type 0
IsAsked None shown = shown ≡ showing.NoRoute
IsAsked (Some (Ok asked)) shown = shown ≡ asked
IsAsked (Some (Err (fault.BadBody number))) shown = shown ≡ showing.BadBody number
IsAsked (Some (Err (fault.Manifest bad))) shown = shown ≡ showing.BadManifest bad
IsAsked (Some (Err fault.Memory)) shown = ⊥

-- what is shown where a credential is needed: that there is none, or what holds with it
abbrev pub Needs : Option Digest → Showing → (Digest → Type 0) → Type 0
Needs None shown holds = shown ≡ showing.NoCredential
Needs (Some who) shown holds = holds who

-- what is shown on `/use/{n}/`: that handle of the run with the token, and the target from the slash behind the number on
abbrev pub IsUsing : ℕ → List ℕ → Digest → Showing → Type 0
IsUsing n target who shown =
    (m : ℕ) × (rest : List ℕ) × IsUse m target rest × (shown ≡ showing.Used (key.Handle who n) (47 ∷ rest))

-- what is shown on a route: that the page is asked for, the key of a session, a bearer's token, a handle, or what the body asks of the desk
abbrev pub ShowsAt : Route → Request → Showing → Type 0
ShowsAt route.Page request shown = shown ≡ showing.Page
ShowsAt (route.Session digest) request shown = shown ≡ showing.Keyed (key.Session digest)
ShowsAt route.Api request shown = Needs request.bearer shown λ who. shown ≡ showing.Keyed (key.Bearer who)
ShowsAt (route.Use n) request shown = Needs request.bearer shown λ who. IsUsing n request.target who shown
ShowsAt found request shown =
    Needs request.bearer shown λ who. IsAsked (asked_at who request.body found) shown

-- WHAT A REQUEST SHOWS: by its route, or nothing where it has none
abbrev pub Shows : Request → Showing → Type 0
Shows request shown =
    ((found : Route) × IsRoute request found × ShowsAt found request shown)
    ⊎ (((found : Route) → IsRoute request found → ⊥) × (shown ≡ showing.NoRoute))
