-- THE COMMANDS on accounts and their logins, applications and grains. Each definition reads like its row of the table of commands.
use Rattle.std.specs.Prelude.{◌≡◌, ℕ, Bool, List, Option, Some, None}
use Rattle.app_manifest.specs.Upgrade.{upgrade_fault}
use Rattle.desk_base.specs.Terms.{Account, AccountId, AppId, Caller, Event, GrainId, HasHandle, IsNoneOf, Manifest}
use Rattle.desk_base.specs.Terms.{must◌or◌then◌, State, Tables, unless◌then◌else◌, when◌then◌else◌}
use Rattle.share_graph.specs.declared.event.Event.TheVariants.{AccountAdded, AppAdded, AppUpgraded, GrainAdded, AdminSet, EnabledSet, LoginSet, TrashedSet}
use Rattle.share_graph.specs.declared.refusal.Refusal.TheVariants.{LastAdmin, NotOwner}
use Rattle.desk_base.specs.Limits.{adds}
use Rattle.desk_base.specs.Made.{nothing_made, shown_account, made_account, made_app, made_grain}
use Rattle.desk_base.specs.Steps.{Step, Refuses, Keeps, Makes, Plain, Drawn, refusing}
use Rattle.desk_base.specs.Wording.{by_account, by_admin, known_account, known_app, known_grain}
use Rattle.account_desk.specs.Rows.{new_account, new_app, new_grain, HasUpgradeFault, IsTaken, LeavesNoAdmin}

-- what is added, and what the reply shows
abbrev pub account_step : Tables → List ℕ → List ℕ → Step
account_step t handle name = Makes (Drawn λ d. AccountAdded (new_account t handle name d)) (made_account t)

abbrev pub app_step : Tables → Manifest → Step
app_step t manifest = Makes (Plain (AppAdded (new_app t manifest))) (made_app t)

abbrev pub grain_step : Tables → AppId → List ℕ → AccountId → Step
grain_step t app title owner = Makes (Plain (GrainAdded (new_grain t app owner title))) (made_grain t)

-- add_account: NotAdmin; HandleTaken
abbrev pub AddAccount : State → Caller → List ℕ → List ℕ → Step → Type 0
AddAccount s who handle name =
    by_admin s who λ admin.
    must IsNoneOf s.tables.accounts (HasHandle handle) or refusing (IsTaken s.tables handle) then
    adds s (account_step s.tables handle name)

-- renew_login: of the caller's own account, or by an admin: NotAdmin; Unknown(1, a)
abbrev pub login_step : AccountId → Step
login_step a = Makes (Drawn λ d. LoginSet a d) (shown_account a.0)

abbrev pub RenewLogin : State → Caller → Option AccountId → Step → Type 0
RenewLogin s who None =
    by_account s who λ account.
    adds s (login_step account.num)
RenewLogin s who (Some a) =
    by_admin s who λ admin.
    known_account s a λ account.
    adds s (login_step a)

-- a mark of an account is set: NotAdmin; Unknown(1, a); same where it is so; LastAdmin where no enabled admin would be left
abbrev pub SetMark : (Account → Bool) → (AccountId → Bool → Event) → State → Caller → AccountId → Bool → Step → Type 0
SetMark mark event s who a on =
    by_admin s who λ admin.
    known_account s a λ account.
    when mark account ≡ on then (Keeps nothing_made) else
    when LeavesNoAdmin s.tables (event a on) then (Refuses LastAdmin) else
    adds s (Makes (Plain (event a on)) nothing_made)

abbrev pub SetAdmin : State → Caller → AccountId → Bool → Step → Type 0
SetAdmin = SetMark (λ account. account.admin) AdminSet

abbrev pub SetEnabled : State → Caller → AccountId → Bool → Step → Type 0
SetEnabled = SetMark (λ account. account.enabled) EnabledSet

-- add_app: NotAdmin
abbrev pub AddApp : State → Caller → Manifest → Step → Type 0
AddApp s who manifest =
    by_admin s who λ admin.
    adds s (app_step s.tables manifest)

-- upgrade_app: Unknown(2, p); Manifest(7, i) or Manifest(8, k) where the manifest may not take the old one's place; same where it is
-- the old one
abbrev pub UpgradeApp : State → Caller → AppId → Manifest → Step → Type 0
UpgradeApp s who p manifest =
    by_admin s who λ admin.
    known_app s p λ app.
    must upgrade_fault app.manifest manifest ≡ None or refusing (HasUpgradeFault app.manifest manifest) then
    when app.manifest ≡ manifest then (Keeps nothing_made) else
    adds s (Makes (Plain (AppUpgraded p manifest)) nothing_made)

-- new_grain: Unknown(2, app)
abbrev pub NewGrain : State → Caller → AppId → List ℕ → Step → Type 0
NewGrain s who app title =
    by_account s who λ owner.
    known_app s app λ row.
    adds s (grain_step s.tables app title owner.num)

-- trash and untrash: Unknown(3, n); NotOwner(n); same where it is so
abbrev pub Trash : State → Caller → GrainId → Bool → Step → Type 0
Trash s who n on =
    by_account s who λ account.
    known_grain s n λ grain.
    unless grain.owner ≡ account.num then (Refuses (NotOwner n)) else
    when grain.trashed ≡ on then (Keeps nothing_made) else
    adds s (Makes (Plain (TrashedSet n on)) nothing_made)
