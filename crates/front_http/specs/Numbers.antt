-- An aid for the contracts of private functions on numbers and routes.
use Rattle.std.specs.Prelude.{◌≡◌, ℕ, ◌<◌, ◌==◌, List, Option, Some, None, length, nat_lt, if◌then◌else◌}
use Rattle.std.specs.List.{position_or_len, before_first, after_first}
use Rattle.std.specs.Str.Parse.{digits_value}
use Rattle.std.specs.Borrow.{Bor}
use Rattle.front_http.specs.declared.route.Route.{Route}
use Rattle.front_http.specs.declared.route.Route.TheVariants as route
use Rattle.front_http.specs.declared.routes.Texts.{Texts}
use Rattle.front_http.specs.declared.routes.Texts.TheVariants as texts
use Rattle.front_http.specs.declared.routes.HostKind.{HostKind}
use Rattle.front_http.specs.declared.routes.HostKind.TheVariants as kind
use Rattle.front_http.specs.Routes.{Form, Fixed, Numbered, Nowhere, Host, Session, Api, Grain, Desk}

-- the route with another number
abbrev pub with_number : Route → ℕ → Route
with_number (route.AccountAdmin m) n = route.AccountAdmin n
with_number (route.AccountEnabled m) n = route.AccountEnabled n
with_number (route.AccountLogin m) n = route.AccountLogin n
with_number (route.GrainTrash m) n = route.GrainTrash n
with_number (route.GrainUntrash m) n = route.GrainUntrash n
with_number (route.AppUpgrade m) n = route.AppUpgrade n
with_number (route.GrainShare m) n = route.GrainShare n
with_number (route.GrainLink m) n = route.GrainLink n
with_number (route.GrainToken m) n = route.GrainToken n
with_number (route.GrainOpen m) n = route.GrainOpen n
with_number (route.GrainWake m) n = route.GrainWake n
with_number (route.GrainStop m) n = route.GrainStop n
with_number (route.GrainQuery m) n = route.GrainQuery n
with_number (route.GrainChoose m) n = route.GrainChoose n
with_number (route.GrainAccess m) n = route.GrainAccess n
with_number (route.GrainWhy m) n = route.GrainWhy n
with_number (route.GrainMissing m) n = route.GrainMissing n
with_number (route.GrainCollect m) n = route.GrainCollect n
with_number (route.GrainShares m) n = route.GrainShares n
with_number (route.GrantRevoke m) n = route.GrantRevoke n
with_number (route.GrantPreview m) n = route.GrantPreview n
with_number (route.SessionClose m) n = route.SessionClose n
with_number (route.Session digest) n = (route.Session digest)
with_number route.Api n = route.Api
with_number (route.Use m) n = route.Use n
with_number route.Accounts n = route.Accounts
with_number route.Login n = route.Login
with_number route.Page n = route.Page
with_number route.Apps n = route.Apps
with_number route.Grains n = route.Grains
with_number route.Me n = route.Me
with_number route.Mine n = route.Mine
with_number route.AccountsList n = route.AccountsList
with_number route.AppsList n = route.AppsList
with_number route.Redeem n = route.Redeem
with_number route.Child n = route.Child
with_number route.Open n = route.Open
with_number route.Wake n = route.Wake
with_number route.Claim n = route.Claim
with_number route.Save n = route.Save
with_number route.Restore n = route.Restore
with_number route.Drop n = route.Drop

-- the number of some digits, if it is at most this one
abbrev pub within : ℕ → List ℕ → Option ℕ
within most digits = if nat_lt most (digits_value 10 digits) then None else Some (digits_value 10 digits)

-- the form that texts give
abbrev pub form_of : Texts → Form
form_of (texts.Fixed text) = Fixed text.now
form_of (texts.Numbered before after) = Numbered before.now after.now
form_of texts.Nowhere = Nowhere

-- the number of a path of this form
abbrev pub kept_number : Form → ℕ → ℕ
kept_number (Fixed text) n = 0
kept_number (Numbered before after) n = n
kept_number Nowhere n = 0

-- a text is cut at its first slash, or has none
abbrev pub IsCut : List ℕ → Option (Bor (List ℕ) × Bor (List ℕ)) → Type 0
IsCut text None = position_or_len (λ byte. byte == 47) text ≡ length text
IsCut text (Some parts) =
    (position_or_len (λ byte. byte == 47) text < length text) × (parts.0.now ≡ before_first (λ byte. byte == 47) text) × (parts.1.now ≡ after_first (λ byte. byte == 47) text)

-- which host it is
abbrev pub kind_of : HostKind → Host
kind_of kind.Session = Session
kind_of kind.Api = Api
kind_of kind.Grain = Grain
kind_of kind.Desk = Desk
