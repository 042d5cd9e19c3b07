use Rattle.std.specs.Prelude.{◌≡◌, ℕ, zero, suc, List, Option, Some, None, slice_get, true, false}
use Rattle.host_base.specs.declared.ids.AccountId.{AccountId}
use Rattle.host_base.specs.declared.ids.AppId.{AppId}
use Rattle.host_base.specs.declared.ids.GrainId.{GrainId}
use Rattle.host_base.specs.declared.ids.GrantId.{GrantId}
use Rattle.host_base.specs.declared.ids.RunId.{RunId}
use Rattle.host_base.specs.declared.ids.SavedId.{SavedId}
use Rattle.host_base.specs.declared.ids.SessionId.{SessionId}
use Rattle.share_graph.specs.declared.grants.Grant.{Grant}
use Rattle.share_graph.specs.declared.rows.Account.{Account}
use Rattle.share_graph.specs.declared.rows.App.{App}
use Rattle.share_graph.specs.declared.rows.Grain.{Grain}
use Rattle.share_graph.specs.declared.rows.Saved.{Saved}
use Rattle.share_graph.specs.declared.sessions.Run.{Run}
use Rattle.share_graph.specs.declared.sessions.Session.{Session}
use Rattle.share_graph.specs.declared.state.State.{State}
use Rattle.share_graph.specs.declared.state.Tables.{Tables}

-- row n of a list, counted from 1
abbrev pub row : {X : Type 0} → List X → ℕ → Option X
row xs zero = None
row xs (suc i) = slice_get xs i

-- the row of that number
abbrev pub IsAccount : Tables → AccountId → Account → Type 0
IsAccount t a account = row t.accounts a.0 ≡ Some account

abbrev pub IsApp : Tables → AppId → App → Type 0
IsApp t p app = row t.apps p.0 ≡ Some app

abbrev pub IsGrain : Tables → GrainId → Grain → Type 0
IsGrain t n grain = row t.grains n.0 ≡ Some grain

abbrev pub IsGrant : Tables → GrantId → Grant → Type 0
IsGrant t g grant = row t.grants g.0 ≡ Some grant

abbrev pub IsSaved : Tables → SavedId → Saved → Type 0
IsSaved t v saved = row t.saved v.0 ≡ Some saved

abbrev pub IsSession : State → SessionId → Session → Type 0
IsSession s n session = row s.sessions n.0 ≡ Some session

abbrev pub IsRun : State → RunId → Run → Type 0
IsRun s r run = row s.runs r.0 ≡ Some run

-- the account is there and enabled
abbrev pub IsEnabled : Tables → AccountId → Type 0
IsEnabled t a = (account : Account) × IsAccount t a account × (account.enabled ≡ true)

-- the account is there, enabled and an admin
abbrev pub IsAdmin : Tables → AccountId → Type 0
IsAdmin t a = (account : Account) × IsAccount t a account × (account.enabled ≡ true) × (account.admin ≡ true)

-- the grain is there and not in the trash
abbrev pub IsKept : Tables → GrainId → Type 0
IsKept t n = (grain : Grain) × IsGrain t n grain × (grain.trashed ≡ false)

-- the grain's application
abbrev pub IsAppOf : Tables → GrainId → App → Type 0
IsAppOf t n app = (grain : Grain) × IsGrain t n grain × IsApp t grain.app app

-- the account is there and disabled
abbrev pub IsDisabled : Tables → AccountId → Type 0
IsDisabled t a = (account : Account) × IsAccount t a account × (account.enabled ≡ false)

-- the grain is there and in the trash
abbrev pub IsTrashed : Tables → GrainId → Type 0
IsTrashed t n = (grain : Grain) × IsGrain t n grain × (grain.trashed ≡ true)
