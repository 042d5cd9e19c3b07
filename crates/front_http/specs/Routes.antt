-- Which request is for what: the tables of routes.
use Rattle.std.specs.Prelude.{◌≡◌, ℕ, ◌<◌, ◌≤◌, ◌++◌, ◌⊎◌, ◌==◌, ◌||◌, Bool, true, List, [], ◌∷◌, length, drop, codes, bytes_eq, if◌then◌else◌}
use Rattle.std.specs.List.{list_all, list_any, before_first, starts_with}
use Rattle.std.specs.Prelude.{nat_eq}
use Rattle.std.specs.Char.{is_ascii_digit}
use Rattle.std.specs.Str.Parse.{digits_value}
use Rattle.sha2.specs.Sha256.{sha256}
use Rattle.host_base.specs.declared.request.Request.{Request}
use Rattle.front_http.specs.declared.route.Route.{Route}
use Rattle.front_http.specs.declared.route.Route.TheVariants as route

-- the path of a target: what stands before the first `?`
abbrev pub path_of : List ℕ → List ℕ
path_of target = before_first (λ byte. byte == 63) target

-- the path goes from the root
abbrev pub is_rooted : List ℕ → Bool
is_rooted path = starts_with nat_eq path (codes "/")

-- 1 to 10 decimal digits, and their number, which is one of 32 bits
pub record IsNumber (digits : List ℕ) (n : ℕ) : Type 0 where
  pub some : 0 < length digits
  pub few : length digits ≤ 10
  pub decimal : list_all is_ascii_digit digits ≡ true
  pub value : n ≡ digits_value 10 digits
  pub small : n ≤ 4294967295

-- the path is a number between these two texts
pub record HasNumber (before : List ℕ) (n : ℕ) (after path : List ℕ) : Type 0 where
  pub digits : List ℕ
  pub number : IsNumber digits n
  pub path_is : path ≡ before ++ (digits ++ after)

-- how a path of a table is written: as it stands, or with a number between two texts
pub data Form : Type 0 where
  Fixed : List ℕ → Form
  Numbered : List ℕ → List ℕ → Form
  Nowhere : Form

-- the path is of the form, with this number
abbrev pub HasForm : Form → ℕ → List ℕ → Type 0
HasForm (Fixed text) n path = path ≡ text
HasForm (Numbered before after) n path = HasNumber before n after path
HasForm Nowhere n path = ⊥

-- the table of the desk
abbrev pub desk_form : Route → Form
desk_form route.Accounts = Fixed (codes "/accounts")
desk_form (route.AccountAdmin n) = Numbered (codes "/accounts/") (codes "/admin")
desk_form (route.AccountEnabled n) = Numbered (codes "/accounts/") (codes "/enabled")
desk_form (route.AccountLogin n) = Numbered (codes "/accounts/") (codes "/login")
desk_form route.Login = Fixed (codes "/login")
desk_form route.Apps = Fixed (codes "/apps")
desk_form (route.AppUpgrade n) = Numbered (codes "/apps/") (codes "/upgrade")
desk_form route.Grains = Fixed (codes "/grains")
desk_form (route.GrainTrash n) = Numbered (codes "/grains/") (codes "/trash")
desk_form (route.GrainUntrash n) = Numbered (codes "/grains/") (codes "/untrash")
desk_form (route.GrainShare n) = Numbered (codes "/grains/") (codes "/share")
desk_form (route.GrainLink n) = Numbered (codes "/grains/") (codes "/link")
desk_form (route.GrainToken n) = Numbered (codes "/grains/") (codes "/token")
desk_form (route.GrainOpen n) = Numbered (codes "/grains/") (codes "/open")
desk_form (route.GrainWake n) = Numbered (codes "/grains/") (codes "/wake")
desk_form (route.GrainStop n) = Numbered (codes "/grains/") (codes "/stop")
desk_form (route.GrainQuery n) = Numbered (codes "/grains/") (codes "/query")
desk_form (route.GrainChoose n) = Numbered (codes "/grains/") (codes "/choose")
desk_form (route.GrainAccess n) = Numbered (codes "/grains/") (codes "/access")
desk_form (route.GrainWhy n) = Numbered (codes "/grains/") (codes "/why")
desk_form (route.GrainMissing n) = Numbered (codes "/grains/") (codes "/missing")
desk_form (route.GrainCollect n) = Numbered (codes "/grains/") (codes "/collect")
desk_form (route.GrainShares n) = Numbered (codes "/grains/") (codes "/shares")
desk_form route.Me = Fixed (codes "/me")
desk_form route.Mine = Fixed (codes "/mine")
desk_form route.AccountsList = Fixed (codes "/accounts/list")
desk_form route.AppsList = Fixed (codes "/apps/list")
desk_form route.Redeem = Fixed (codes "/redeem")
desk_form (route.GrantRevoke n) = Numbered (codes "/grants/") (codes "/revoke")
desk_form (route.GrantPreview n) = Numbered (codes "/grants/") (codes "/preview")
desk_form (route.SessionClose n) = Numbered (codes "/sessions/") (codes "/close")
desk_form route.Child = Fixed (codes "/child")
desk_form route.Open = Fixed (codes "/open")
desk_form route.Wake = Fixed (codes "/wake")
desk_form (route.Session digest) = Nowhere
desk_form route.Api = Nowhere
desk_form route.Page = Nowhere
desk_form (route.Use n) = Nowhere
desk_form route.Claim = Nowhere
desk_form route.Save = Nowhere
desk_form route.Restore = Nowhere
desk_form route.Drop = Nowhere

-- the table of a running grain
abbrev pub grain_form : Route → Form
grain_form route.Claim = Fixed (codes "/claim")
grain_form route.Save = Fixed (codes "/save")
grain_form route.Restore = Fixed (codes "/restore")
grain_form route.Drop = Fixed (codes "/drop")
grain_form _ = Nowhere

-- the number of a route's path, if it has one
abbrev pub number_of : Route → ℕ
number_of (route.AccountAdmin n) = n
number_of (route.AccountEnabled n) = n
number_of (route.AccountLogin n) = n
number_of (route.GrainTrash n) = n
number_of (route.GrainUntrash n) = n
number_of (route.AppUpgrade n) = n
number_of (route.GrainShare n) = n
number_of (route.GrainLink n) = n
number_of (route.GrainToken n) = n
number_of (route.GrainOpen n) = n
number_of (route.GrainWake n) = n
number_of (route.GrainStop n) = n
number_of (route.GrainQuery n) = n
number_of (route.GrainChoose n) = n
number_of (route.GrainAccess n) = n
number_of (route.GrainWhy n) = n
number_of (route.GrainMissing n) = n
number_of (route.GrainCollect n) = n
number_of (route.GrainShares n) = n
number_of (route.GrantRevoke n) = n
number_of (route.GrantPreview n) = n
number_of (route.SessionClose n) = n
number_of (route.Use n) = n
number_of _ = 0

-- the methods that a grain is asked with
abbrev pub is_method : List ℕ → Bool
is_method method = list_any (bytes_eq method)
    (codes "GET" ∷ codes "HEAD" ∷ codes "POST" ∷ codes "PUT" ∷ codes "PATCH" ∷ codes "DELETE" ∷ codes "OPTIONS" ∷ [])

-- `.` or `:`
abbrev pub is_key_end : ℕ → Bool
is_key_end byte = byte == 46 || byte == 58

-- the text of a session's key: what follows `ui-` in the host up to the first `.` or `:` or the end
abbrev pub session_text : List ℕ → List ℕ
session_text host = before_first is_key_end (drop 3 host)

-- a POST to a path of a table
pub record IsPost (form : Route → Form) (request : Request) (found : Route) : Type 0 where
  pub method : request.method ≡ codes "POST"
  pub path : HasForm (form found) (number_of found) (path_of request.target)

-- the desk's page is asked for, or its head: by a GET or a HEAD of the root
pub record IsPageAsked (request : Request) : Type 0 where
  pub method : (request.method ≡ codes "GET") ⊎ (request.method ≡ codes "HEAD")
  pub path : path_of request.target ≡ codes "/"

-- the target is `/use/{n}/` and this
pub record IsUse (n : ℕ) (target rest : List ℕ) : Type 0 where
  pub digits : List ℕ
  pub number : IsNumber digits n
  pub target_is : target ≡ codes "/use/" ++ (digits ++ (47 ∷ rest))

-- a request that goes through the handle of a number
pub record IsUsed (request : Request) (n : ℕ) : Type 0 where
  pub method : is_method request.method ≡ true
  pub rest : List ℕ
  pub target : IsUse n request.target rest

-- a request to what is asked for by any path from the root
pub record IsAskedAs (request : Request) : Type 0 where
  pub method : is_method request.method ≡ true
  pub rooted : is_rooted request.target ≡ true

-- which host a request is for, by how its name begins
pub data Host : Type 0 where
  Session Api Grain Desk : Host

abbrev pub host_kind : List ℕ → Host
host_kind host = if starts_with nat_eq host (codes "ui-") then Session
    else (if starts_with nat_eq host (codes "api.") then Api
    else (if starts_with nat_eq host (codes "grain.") then Grain else Desk))

-- what a request to a host of this kind is for
abbrev pub IsRouteAt : Host → Request → Route → Type 0
IsRouteAt Session request found = IsAskedAs request × (found ≡ route.Session (record { 0 = sha256 (session_text request.host) }))
IsRouteAt Api request found = IsAskedAs request × (found ≡ route.Api)
IsRouteAt Grain request found = IsPost grain_form request found ⊎ ((n : ℕ) × IsUsed request n × (found ≡ route.Use n))
IsRouteAt Desk request found = IsPost desk_form request found ⊎ (IsPageAsked request × (found ≡ route.Page))

-- what a request is for
abbrev pub IsRoute : Request → Route → Type 0
IsRoute request found = IsRouteAt (host_kind request.host) request found
