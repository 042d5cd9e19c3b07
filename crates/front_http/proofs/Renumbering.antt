-- Routes and their numbers.
use Rattle.std.proofs.Common.{◌≡◌, ℕ, List, Option, Some, None, IfSome, refl, sym, ap, subst, ◌∙◌}
use Rattle.front_http.specs.declared.route.Route.{Route}
use Rattle.front_http.specs.declared.route.Route.TheVariants as route
use Rattle.front_http.specs.Routes.{Form, HasForm, desk_form, grain_form, number_of}
use Rattle.front_http.specs.Numbers.{with_number, kept_number}

-- another number changes no form
pub desk_form_with : (r : Route) (n : ℕ) → desk_form (with_number r n) ≡ desk_form r
desk_form_with route.Api n = refl
desk_form_with _ n = refl

pub grain_form_with : (r : Route) (n : ℕ) → grain_form (with_number r n) ≡ grain_form r
grain_form_with route.Api n = refl
grain_form_with _ n = refl

-- a route with the number of a path is the path's
pub desk_numbered : (r : Route) (n : ℕ) (path : List ℕ) → HasForm (desk_form r) n path → HasForm (desk_form (with_number r n)) (number_of (with_number r n)) path
desk_numbered route.Api n path is = absurd is
desk_numbered _ n path is = is

pub grain_numbered : (r : Route) (n : ℕ) (path : List ℕ) → HasForm (grain_form r) n path → HasForm (grain_form (with_number r n)) (number_of (with_number r n)) path
grain_numbered route.Claim n path is = is
grain_numbered _ n path is = is

-- a route that has the number of its path again is itself
pub desk_restored : (r : Route) (path : List ℕ) → HasForm (desk_form r) (number_of r) path → with_number (with_number r 0) (kept_number (desk_form (with_number r 0)) (number_of r)) ≡ r
desk_restored (route.Use n) path is = absurd is
desk_restored _ path is = refl

pub grain_restored : (r : Route) (path : List ℕ) → HasForm (grain_form r) (number_of r) path → with_number (with_number r 0) (kept_number (grain_form (with_number r 0)) (number_of r)) ≡ r
grain_restored route.Claim path is = refl
grain_restored route.Save path is = refl
grain_restored route.Restore path is = refl
grain_restored route.Drop path is = refl
grain_restored _ path is = absurd is

-- what fits the form of a route of the desk is of the route's form
pub desk_fits : (r : Option Route) (route : Route) (form : Form) (bytes path : List ℕ) → form ≡ desk_form route → bytes ≡ path
    → IfSome r (λ found. (n : ℕ) × HasForm form n bytes × (found ≡ with_number route n)) → IfSome r (λ found. HasForm (desk_form found) (number_of found) path)
desk_fits None route form bytes path form_is same fits = tt
desk_fits (Some found) route form bytes path form_is same fits =
    let has : HasForm (desk_form route) fits.0 path = subst (HasForm (desk_form route) fits.0) same (subst (λ f. HasForm f fits.0 bytes) form_is fits.1) in
    subst (λ x. HasForm (desk_form x) (number_of x) path) (sym fits.2) (desk_numbered route fits.0 path has)

-- a path of the desk fits the form of the route that its router has
pub desk_whole : (r : Option Route) (route found : Route) (form : Form) (bytes path : List ℕ) → Some route ≡ Some (with_number found 0) → form ≡ desk_form route → bytes ≡ path
    → HasForm (desk_form found) (number_of found) path → ((n : ℕ) → HasForm form n bytes → r ≡ Some (with_number route (kept_number form n))) → r ≡ Some found
desk_whole r route found form bytes path has form_is same is fits =
    let route_is : route ≡ with_number found 0 = cc in
    let form_was : form ≡ desk_form (with_number found 0) = form_is ∙ ap desk_form route_is in
    let here : HasForm form (number_of found) bytes =
    subst (HasForm form (number_of found)) (sym same) (subst (λ f. HasForm f (number_of found) path) (sym (form_was ∙ desk_form_with found 0)) is) in
    fits (number_of found) here ∙ ap Some (ap (λ x. with_number x (kept_number form (number_of found))) route_is ∙ ap (λ f. with_number (with_number found 0) (kept_number f (number_of found))) form_was ∙ desk_restored found path is)

-- what fits the form of a route of the grain is of the route's form
pub grain_fits : (r : Option Route) (route : Route) (form : Form) (bytes path : List ℕ) → form ≡ grain_form route → bytes ≡ path
    → IfSome r (λ found. (n : ℕ) × HasForm form n bytes × (found ≡ with_number route n)) → IfSome r (λ found. HasForm (grain_form found) (number_of found) path)
grain_fits None route form bytes path form_is same fits = tt
grain_fits (Some found) route form bytes path form_is same fits =
    let has : HasForm (grain_form route) fits.0 path = subst (HasForm (grain_form route) fits.0) same (subst (λ f. HasForm f fits.0 bytes) form_is fits.1) in
    subst (λ x. HasForm (grain_form x) (number_of x) path) (sym fits.2) (grain_numbered route fits.0 path has)

-- a path of the grain fits the form of the route that its router has
pub grain_whole : (r : Option Route) (route found : Route) (form : Form) (bytes path : List ℕ) → Some route ≡ Some (with_number found 0) → form ≡ grain_form route → bytes ≡ path
    → HasForm (grain_form found) (number_of found) path → ((n : ℕ) → HasForm form n bytes → r ≡ Some (with_number route (kept_number form n))) → r ≡ Some found
grain_whole r route found form bytes path has form_is same is fits =
    let route_is : route ≡ with_number found 0 = cc in
    let form_was : form ≡ grain_form (with_number found 0) = form_is ∙ ap grain_form route_is in
    let here : HasForm form (number_of found) bytes =
    subst (HasForm form (number_of found)) (sym same) (subst (λ f. HasForm f (number_of found) path) (sym (form_was ∙ grain_form_with found 0)) is) in
    fits (number_of found) here ∙ ap Some (ap (λ x. with_number x (kept_number form (number_of found))) route_is ∙ ap (λ f. with_number (with_number found 0) (kept_number f (number_of found))) form_was ∙ grain_restored found path is)
