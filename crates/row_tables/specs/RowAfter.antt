-- The row of the tables that an event adds or changes, as it stands after the event.
use Rattle.std.specs.Prelude.{◌≡◌, ◌+◌, length, Option}
use Rattle.std.specs.Option.{option_and_then}
use Rattle.share_graph.specs.declared.event.Event.{Event}
use Rattle.share_graph.specs.declared.event.Event.TheVariants as event
use Rattle.share_graph.specs.declared.rows.Account.{Account}
use Rattle.share_graph.specs.declared.rows.App.{App}
use Rattle.share_graph.specs.declared.state.Tables.{Tables}
use Rattle.share_graph.specs.History.{tables_after}
use Rattle.share_graph.specs.Rows.{IsAccount, IsApp}
use Rattle.share_graph.specs.Setting.{with_login, with_manifest}
use Rattle.state_step.specs.Changed.{changed_row}
use Rattle.cloud_keeper.specs.declared.row.Row.{Row}
use Rattle.row_codec.specs.Rows.{account, grain, saved}
use Rattle.row_codec.specs.AppRow.{app, IsCountableApp}
use Rattle.row_codec.specs.GrantRow.{grant, IsCountableGrant}
use Rattle.row_tables.specs.RowOf.{row_of}

-- a row that the event adds has the next number of its kind
abbrev pub AddsNext : Tables → Event → Type 0
AddsNext t (event.AccountAdded account) = account.num.0 ≡ length t.accounts + 1
AddsNext t (event.AppAdded app) = app.num.0 ≡ length t.apps + 1
AddsNext t (event.GrainAdded grain) = grain.num.0 ≡ length t.grains + 1
AddsNext t (event.GrantAdded grant) = grant.num.0 ≡ length t.grants + 1
AddsNext t (event.Claimed grant handle) = grant.num.0 ≡ length t.grants + 1
AddsNext t (event.SavedAdded saved) = saved.num.0 ≡ length t.saved + 1
AddsNext t (event.AppUpgraded p manifest) = Unit {0}
AddsNext t (event.AdminSet a on) = Unit {0}
AddsNext t (event.EnabledSet a on) = Unit {0}
AddsNext t (event.LoginSet a login) = Unit {0}
AddsNext t (event.TrashedSet n on) = Unit {0}
AddsNext t (event.GrantRevoked g) = Unit {0}
AddsNext t (event.SavedDropped v) = Unit {0}
AddsNext t (event.RunStarted run) = Unit {0}
AddsNext t (event.RunStopped r) = Unit {0}
AddsNext t (event.SessionOpened session) = Unit {0}
AddsNext t (event.SessionClosed n) = Unit {0}
AddsNext t (event.HandleMade handle) = Unit {0}
AddsNext t (event.Ticked m) = Unit {0}

-- the row that the event adds, or the account or the application as it has it, fits the row of the number that it carries
abbrev pub AddedFits : Tables → Event → Type 0
AddedFits t (event.AccountAdded row) = (account row.num.0).fits row
AddedFits t (event.AppAdded row) = IsCountableApp row → (app row.num.0).fits row
AddedFits t (event.AppUpgraded p manifest) = (x : App) → IsApp t p x → IsCountableApp (with_manifest manifest x) → (app x.num.0).fits (with_manifest manifest x)
AddedFits t (event.LoginSet a login) = (x : Account) → IsAccount t a x → (account x.num.0).fits (with_login login x)
AddedFits t (event.GrainAdded row) = (grain row.num.0).fits row
AddedFits t (event.GrantAdded row) = IsCountableGrant row → (grant row.num.0).fits row
AddedFits t (event.Claimed row handle) = IsCountableGrant row → (grant row.num.0).fits row
AddedFits t (event.SavedAdded row) = (saved row.num.0).fits row
AddedFits t _ = Unit {0}

-- the row that the event adds or changes, in the tables after it; none where it leaves their rows as they are
abbrev pub row_after : Tables → Event → Option Row
row_after t e = option_and_then (λ named. row_of (tables_after t e) named.0 named.1) (changed_row e)
