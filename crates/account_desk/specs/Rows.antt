-- The rows that the commands add, the marks that they set, and the tests of this desk alone.
use Rattle.std.specs.Prelude.{◌≡◌, ℕ, Bool, List, Some, true, false}
use Rattle.app_manifest.specs.Upgrade.{upgrade_fault}
use Rattle.app_manifest.specs.declared.fault.ManifestFault.{ManifestFault}
use Rattle.desk_base.specs.Terms.{Account, AccountId, App, AppId, Digest, Event, Grain, HasHandle, IsNoneOf, IsOneOf}
use Rattle.desk_base.specs.Terms.{Manifest, Refusal, Tables, tables_after}
use Rattle.share_graph.specs.declared.event.Event.TheVariants.{AdminSet, EnabledSet}
use Rattle.share_graph.specs.declared.refusal.Refusal.TheVariants as refusal
use Rattle.share_graph.specs.declared.refusal.Refusal.TheVariants.{HandleTaken}
use Rattle.desk_base.specs.Made.{next}
use Rattle.account_desk.specs.declared.admins.Mark.{Mark}
use Rattle.account_desk.specs.declared.admins.Mark.TheVariants as mark

-- a new account is enabled, and no admin
abbrev pub new_account : Tables → List ℕ → List ℕ → Digest → Account
new_account t handle name d = record { num = record { 0 = next t.accounts }; handle = handle; name = name; login = d; admin = false; enabled = true }

abbrev pub new_app : Tables → Manifest → App
new_app t manifest = record { num = record { 0 = next t.apps }; manifest = manifest }

abbrev pub new_grain : Tables → AppId → AccountId → List ℕ → Grain
new_grain t app owner title = record { num = record { 0 = next t.grains }; app = app; owner = owner; title = title; trashed = false }

-- the refusal by the first fault of an upgrade
abbrev pub HasUpgradeFault : Manifest → Manifest → Refusal → Type 0
HasUpgradeFault old new r = (fault : ManifestFault) × (r ≡ refusal.Manifest fault) × (upgrade_fault old new ≡ Some fault)

-- the refusal that names the account which has the handle
abbrev pub IsTaken : Tables → List ℕ → Refusal → Type 0
IsTaken t handle r = (account : Account) × (r ≡ HandleTaken account.num) × IsOneOf t.accounts (HasHandle handle) account

-- the account is an enabled admin
abbrev pub IsEnabledAdmin : Account → Type 0
IsEnabledAdmin account = (account.enabled ≡ true) × (account.admin ≡ true)

-- if the account is one, it is the one of that number
abbrev pub IsOnlyAdmin : AccountId → Account → Type 0
IsOnlyAdmin a account = IsEnabledAdmin account → account.num ≡ a

-- after the event no account is an enabled admin
unfoldable pub LeavesNoAdmin : Tables → Event → Type 0
LeavesNoAdmin t e = IsNoneOf (tables_after t e).accounts IsEnabledAdmin

-- whether the account has the mark, and the event that sets it
abbrev pub has_mark : Mark → Account → Bool
has_mark mark.Admin account = account.admin
has_mark mark.Enabled account = account.enabled

abbrev pub mark_set : Mark → AccountId → Bool → Event
mark_set mark.Admin a on = AdminSet a on
mark_set mark.Enabled a on = EnabledSet a on
