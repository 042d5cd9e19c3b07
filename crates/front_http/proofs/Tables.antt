-- The tables that the routers hold, and that they find each of their paths.
use Rattle.std.proofs.Common.{◌≡◌, ℕ, ◌<◌, ◌++◌, true, List, [], ◌∷◌, Option, Some, None, length, codes, refl, sym, ◌∙◌, ap, arith}
use Rattle.matchit.specs.Rows.{RowsOf}
use Rattle.matchit.specs.Seek.{first, seek, step, param_step}
use Rattle.matchit.specs.Router.{RouteOf, rename, map_key}
use Rattle.matchit.proofs.RenameLemmas.{first-rename}
use Rattle.matchit.proofs.OnLiterals.{matchit_on_literals}
use Rattle.front_http.specs.declared.route.Route.{Route}
use Rattle.front_http.specs.declared.route.Route.TheVariants as route
use Rattle.front_http.specs.Routes.{HasNumber, HasForm, desk_form, grain_form, number_of}
use Rattle.front_http.specs.Numbers.{with_number}
use Rattle.front_http.specs.Tables.{desk_rows, grain_rows, value_of}
use Rattle.front_http.proofs.Seeking.{Paths, steps, are_slashed, are_wild, numbered_found}

-- the desk's paths, in the order of its router
unfoldable desk_table : Paths
desk_table =
    (codes "/accounts/list", route.AccountsList)
    ∷ (codes "/accounts/" ++ (256 ∷ codes "/admin"), route.AccountAdmin 0)
    ∷ (codes "/accounts/" ++ (256 ∷ codes "/enabled"), route.AccountEnabled 0)
    ∷ (codes "/accounts/" ++ (256 ∷ codes "/login"), route.AccountLogin 0)
    ∷ (codes "/accounts", route.Accounts)
    ∷ (codes "/apps/list", route.AppsList)
    ∷ (codes "/apps/" ++ (256 ∷ codes "/upgrade"), route.AppUpgrade 0)
    ∷ (codes "/apps", route.Apps)
    ∷ (codes "/child", route.Child)
    ∷ (codes "/grains/" ++ (256 ∷ codes "/access"), route.GrainAccess 0)
    ∷ (codes "/grains/" ++ (256 ∷ codes "/choose"), route.GrainChoose 0)
    ∷ (codes "/grains/" ++ (256 ∷ codes "/collect"), route.GrainCollect 0)
    ∷ (codes "/grains/" ++ (256 ∷ codes "/link"), route.GrainLink 0)
    ∷ (codes "/grains/" ++ (256 ∷ codes "/missing"), route.GrainMissing 0)
    ∷ (codes "/grains/" ++ (256 ∷ codes "/open"), route.GrainOpen 0)
    ∷ (codes "/grains/" ++ (256 ∷ codes "/query"), route.GrainQuery 0)
    ∷ (codes "/grains/" ++ (256 ∷ codes "/shares"), route.GrainShares 0)
    ∷ (codes "/grains/" ++ (256 ∷ codes "/share"), route.GrainShare 0)
    ∷ (codes "/grains/" ++ (256 ∷ codes "/stop"), route.GrainStop 0)
    ∷ (codes "/grains/" ++ (256 ∷ codes "/token"), route.GrainToken 0)
    ∷ (codes "/grains/" ++ (256 ∷ codes "/trash"), route.GrainTrash 0)
    ∷ (codes "/grains/" ++ (256 ∷ codes "/untrash"), route.GrainUntrash 0)
    ∷ (codes "/grains/" ++ (256 ∷ codes "/wake"), route.GrainWake 0)
    ∷ (codes "/grains/" ++ (256 ∷ codes "/why"), route.GrainWhy 0)
    ∷ (codes "/grains", route.Grains)
    ∷ (codes "/grants/" ++ (256 ∷ codes "/preview"), route.GrantPreview 0)
    ∷ (codes "/grants/" ++ (256 ∷ codes "/revoke"), route.GrantRevoke 0)
    ∷ (codes "/login", route.Login)
    ∷ (codes "/me", route.Me)
    ∷ (codes "/mine", route.Mine)
    ∷ (codes "/open", route.Open)
    ∷ (codes "/redeem", route.Redeem)
    ∷ (codes "/sessions/" ++ (256 ∷ codes "/close"), route.SessionClose 0)
    ∷ (codes "/wake", route.Wake)
    ∷ []

unfoldable grain_table : Paths
grain_table =
    (codes "/claim", route.Claim)
    ∷ (codes "/drop", route.Drop)
    ∷ (codes "/restore", route.Restore)
    ∷ (codes "/save", route.Save)
    ∷ []

desk_is : rename (λ (found : RouteOf Route). found.value) desk_rows ≡ desk_table
unfolding desk_rows desk_table matchit_on_literals
desk_is = refl

grain_is : rename (λ (found : RouteOf Route). found.value) grain_rows ≡ grain_table
unfolding grain_rows grain_table matchit_on_literals
grain_is = refl

-- what a table has is what its router finds
value-rename : (found : Option (RouteOf Route)) → map_key (λ (r : RouteOf Route). r.value) found ≡ value_of found
value-rename None = refl
value-rename (Some found) = refl

by_table : (rows : RowsOf (RouteOf Route)) (table : Paths) (path : List ℕ) (found : Route) → rename (λ (r : RouteOf Route). r.value) rows ≡ table → first table path ≡ Some found → value_of (first rows path) ≡ Some found
by_table rows table path found same is =
    sym (value-rename (first rows path)) ∙ sym (first-rename (λ (r : RouteOf Route). r.value) rows path) ∙ ap (λ (t : Paths). first t path) same ∙ is

desk_fixed : (text path : List ℕ) (found : Route) → first desk_table text ≡ Some found → path ≡ text → first desk_table path ≡ Some found
desk_fixed text path found is same = ap (first desk_table) same ∙ is

grain_fixed : (text path : List ℕ) (found : Route) → first grain_table text ≡ Some found → path ≡ text → first grain_table path ≡ Some found
grain_fixed text path found is same = ap (first grain_table) same ∙ is

desk_numbered : (before more path : List ℕ) (n : ℕ) (found : Route) → are_wild (steps before desk_table) ≡ true → are_slashed (step 256 (steps before desk_table)) ≡ true → 0 < length (step 256 (steps before desk_table))
    → seek 0 (step 256 (steps before desk_table)) (47 ∷ more) ≡ Some found → HasNumber before n (47 ∷ more) path → first desk_table path ≡ Some found
desk_numbered before more path n found wild slashed some is numbered =
    ap (first desk_table) numbered.path_is ∙ numbered_found desk_table before numbered.digits more found wild slashed some is numbered.number.decimal numbered.number.some

desk_path : (found : Route) (path : List ℕ) → HasForm (desk_form found) (number_of found) path → first desk_table path ≡ Some (with_number found 0)
unfolding desk_table seek param_step
desk_path route.Accounts path is = desk_fixed (codes "/accounts") path route.Accounts refl is
desk_path (route.AccountAdmin n) path is = desk_numbered (codes "/accounts/") (codes "admin") path n (route.AccountAdmin 0) refl refl (omega arith) refl is
desk_path (route.AccountEnabled n) path is = desk_numbered (codes "/accounts/") (codes "enabled") path n (route.AccountEnabled 0) refl refl (omega arith) refl is
desk_path (route.AccountLogin n) path is = desk_numbered (codes "/accounts/") (codes "login") path n (route.AccountLogin 0) refl refl (omega arith) refl is
desk_path route.Login path is = desk_fixed (codes "/login") path route.Login refl is
desk_path route.Apps path is = desk_fixed (codes "/apps") path route.Apps refl is
desk_path (route.AppUpgrade n) path is = desk_numbered (codes "/apps/") (codes "upgrade") path n (route.AppUpgrade 0) refl refl (omega arith) refl is
desk_path route.Grains path is = desk_fixed (codes "/grains") path route.Grains refl is
desk_path (route.GrainTrash n) path is = desk_numbered (codes "/grains/") (codes "trash") path n (route.GrainTrash 0) refl refl (omega arith) refl is
desk_path (route.GrainUntrash n) path is = desk_numbered (codes "/grains/") (codes "untrash") path n (route.GrainUntrash 0) refl refl (omega arith) refl is
desk_path (route.GrainShare n) path is = desk_numbered (codes "/grains/") (codes "share") path n (route.GrainShare 0) refl refl (omega arith) refl is
desk_path (route.GrainLink n) path is = desk_numbered (codes "/grains/") (codes "link") path n (route.GrainLink 0) refl refl (omega arith) refl is
desk_path (route.GrainToken n) path is = desk_numbered (codes "/grains/") (codes "token") path n (route.GrainToken 0) refl refl (omega arith) refl is
desk_path (route.GrainOpen n) path is = desk_numbered (codes "/grains/") (codes "open") path n (route.GrainOpen 0) refl refl (omega arith) refl is
desk_path (route.GrainWake n) path is = desk_numbered (codes "/grains/") (codes "wake") path n (route.GrainWake 0) refl refl (omega arith) refl is
desk_path (route.GrainStop n) path is = desk_numbered (codes "/grains/") (codes "stop") path n (route.GrainStop 0) refl refl (omega arith) refl is
desk_path (route.GrainQuery n) path is = desk_numbered (codes "/grains/") (codes "query") path n (route.GrainQuery 0) refl refl (omega arith) refl is
desk_path (route.GrainChoose n) path is = desk_numbered (codes "/grains/") (codes "choose") path n (route.GrainChoose 0) refl refl (omega arith) refl is
desk_path (route.GrainAccess n) path is = desk_numbered (codes "/grains/") (codes "access") path n (route.GrainAccess 0) refl refl (omega arith) refl is
desk_path (route.GrainWhy n) path is = desk_numbered (codes "/grains/") (codes "why") path n (route.GrainWhy 0) refl refl (omega arith) refl is
desk_path (route.GrainMissing n) path is = desk_numbered (codes "/grains/") (codes "missing") path n (route.GrainMissing 0) refl refl (omega arith) refl is
desk_path (route.GrainCollect n) path is = desk_numbered (codes "/grains/") (codes "collect") path n (route.GrainCollect 0) refl refl (omega arith) refl is
desk_path (route.GrainShares n) path is = desk_numbered (codes "/grains/") (codes "shares") path n (route.GrainShares 0) refl refl (omega arith) refl is
desk_path route.Me path is = desk_fixed (codes "/me") path route.Me refl is
desk_path route.Mine path is = desk_fixed (codes "/mine") path route.Mine refl is
desk_path route.AccountsList path is = desk_fixed (codes "/accounts/list") path route.AccountsList refl is
desk_path route.AppsList path is = desk_fixed (codes "/apps/list") path route.AppsList refl is
desk_path route.Redeem path is = desk_fixed (codes "/redeem") path route.Redeem refl is
desk_path (route.GrantRevoke n) path is = desk_numbered (codes "/grants/") (codes "revoke") path n (route.GrantRevoke 0) refl refl (omega arith) refl is
desk_path (route.GrantPreview n) path is = desk_numbered (codes "/grants/") (codes "preview") path n (route.GrantPreview 0) refl refl (omega arith) refl is
desk_path (route.SessionClose n) path is = desk_numbered (codes "/sessions/") (codes "close") path n (route.SessionClose 0) refl refl (omega arith) refl is
desk_path route.Child path is = desk_fixed (codes "/child") path route.Child refl is
desk_path route.Open path is = desk_fixed (codes "/open") path route.Open refl is
desk_path route.Wake path is = desk_fixed (codes "/wake") path route.Wake refl is
desk_path (route.Session digest) path is = absurd is
desk_path route.Api path is = absurd is
desk_path route.Page path is = absurd is
desk_path (route.Use n) path is = absurd is
desk_path route.Claim path is = absurd is
desk_path route.Save path is = absurd is
desk_path route.Restore path is = absurd is
desk_path route.Drop path is = absurd is

grain_path : (found : Route) (path : List ℕ) → HasForm (grain_form found) (number_of found) path → first grain_table path ≡ Some (with_number found 0)
unfolding grain_table seek param_step
grain_path route.Claim path is = grain_fixed (codes "/claim") path route.Claim refl is
grain_path route.Save path is = grain_fixed (codes "/save") path route.Save refl is
grain_path route.Restore path is = grain_fixed (codes "/restore") path route.Restore refl is
grain_path route.Drop path is = grain_fixed (codes "/drop") path route.Drop refl is
grain_path _ path is = absurd is

-- each path of the desk is found by its router
pub desk_found : (found : Route) (path : List ℕ) → HasForm (desk_form found) (number_of found) path → value_of (first desk_rows path) ≡ Some (with_number found 0)
desk_found found path is = by_table desk_rows desk_table path (with_number found 0) desk_is (desk_path found path is)

-- and so is each of a running grain
pub grain_found : (found : Route) (path : List ℕ) → HasForm (grain_form found) (number_of found) path → value_of (first grain_rows path) ≡ Some (with_number found 0)
grain_found found path is = by_table grain_rows grain_table path (with_number found 0) grain_is (grain_path found path is)
