-- The changes of each command fit.
use Rattle.std.proofs.Common.{◌≡◌, ℕ, Bool, true, false, List, Option, Some, None, refl}
use Rattle.app_manifest.proofs.Kept.{fits_without_fault}
use Rattle.desk_base.specs.Terms.{Account, AccountId, AppId, Caller, Event, EventFits, GrainId, HasAccount, is_handle}
use Rattle.desk_base.specs.Terms.{IsSoundManifest, IsWellFormed, Manifest, State}
use Rattle.share_graph.specs.declared.event.Event.TheVariants.{AccountAdded, AppAdded, AppUpgraded, GrainAdded, AdminSet, EnabledSet, LoginSet, TrashedSet}
use Rattle.share_graph.specs.declared.fault.Kind.TheVariants as kind
use Rattle.state_step.proofs.AccountLaws.{account_added_fits, admin_set_fits, enabled_set_fits, login_set_fits}
use Rattle.state_step.proofs.AppLaws.{app_added_fits, app_upgraded_fits}
use Rattle.state_step.proofs.GrainLaws.{grain_added_fits, trashed_set_fits}
use Rattle.desk_base.specs.Fitting.{RowFits, StartsNoRun}
use Rattle.desk_base.specs.Made.{nothing_made, shown_account, made_account, made_app, made_grain}
use Rattle.desk_base.specs.Steps.{Step, Drawn}
use Rattle.desk_base.specs.Wording.{by_admin}
use Rattle.desk_base.proofs.FitForms.{when_fits, unless_fits, must_fits, found_fits, some_fits, adds_fits, plain_adds}
use Rattle.desk_base.proofs.Room.{room_of}
use Rattle.desk_base.proofs.Words.{listed_account}
use Rattle.account_desk.specs.Commands.{AddAccount, RenewLogin, SetMark, SetAdmin, SetEnabled, AddApp, UpgradeApp, NewGrain, Trash}
use Rattle.account_desk.specs.Rows.{new_account, new_app, new_grain}

module _ (s : State) (formed : IsWellFormed s) (who : Caller) where
  admin_fits : {draws : Bool} {Rest : Account → Step → Type 0} → ((admin : Account) → RowFits s draws (Rest admin)) → RowFits s draws (by_admin s who Rest)
  admin_fits rest = some_fits s tt λ admin is. unless_fits s tt λ enabled. unless_fits s tt λ is_admin. rest admin

  pub add_account_fits : (handle name : List ℕ) → is_handle handle ≡ true → RowFits s true (AddAccount s who handle name)
  add_account_fits handle name named =
      admin_fits λ admin.
      must_fits s λ free.
      adds_fits s (Drawn λ d. AccountAdded (new_account s.tables handle name d)) (made_account s.tables) λ room d unused.
      account_added_fits s formed (new_account s.tables handle name d)
      (record { num = refl; room = room_of kind.Account 4096 _ room; formed = named; free = free; unused = unused })

  pub renew_login_fits : (num : Option AccountId) → RowFits s true (RenewLogin s who num)
  renew_login_fits None =
      some_fits s tt λ account is.
      unless_fits s tt λ enabled.
      adds_fits s (Drawn λ d. LoginSet account.num d) (shown_account account.num.0) λ room d unused.
      login_set_fits s formed account.num d (record { changed = listed_account s formed account is.listed; unused = unused })
  renew_login_fits (Some a) =
      admin_fits λ admin.
      found_fits s tt λ account there.
      adds_fits s (Drawn λ d. LoginSet a d) (shown_account a.0) λ room d unused.
      login_set_fits s formed a d (record { changed = (account, there); unused = unused })

  mark_fits : (mark : Account → Bool) (event : AccountId → Bool → Event) (a : AccountId) (on : Bool) → StartsNoRun (event a on) → (HasAccount s.tables a → EventFits s (event a on))
      → RowFits s false (SetMark mark event s who a on)
  mark_fits mark event a on quiet fits =
      admin_fits λ admin.
      found_fits s tt λ account there.
      when_fits s tt λ differs.
      when_fits s tt λ some_left.
      plain_adds s (event a on) quiet nothing_made λ room. fits (account, there)

  pub set_admin_fits : (a : AccountId) (on : Bool) → RowFits s false (SetAdmin s who a on)
  set_admin_fits a on = mark_fits _ AdminSet a on tt (admin_set_fits s formed a on)

  pub set_enabled_fits : (a : AccountId) (on : Bool) → RowFits s false (SetEnabled s who a on)
  set_enabled_fits a on = mark_fits _ EnabledSet a on tt (enabled_set_fits s formed a on)

  pub add_app_fits : (manifest : Manifest) → IsSoundManifest manifest → RowFits s false (AddApp s who manifest)
  add_app_fits manifest sound =
      admin_fits λ admin.
      plain_adds s (AppAdded (new_app s.tables manifest)) tt (made_app s.tables) λ room.
      app_added_fits s formed (new_app s.tables manifest) (record { num = refl; room = room_of kind.App 256 _ room; sound = sound })

  pub upgrade_app_fits : (p : AppId) (manifest : Manifest) → IsSoundManifest manifest → RowFits s false (UpgradeApp s who p manifest)
  upgrade_app_fits p manifest sound =
      admin_fits λ admin.
      found_fits s tt λ app there.
      must_fits s λ no_fault.
      when_fits s tt λ differs.
      plain_adds s (AppUpgraded p manifest) tt nothing_made λ room.
      app_upgraded_fits s formed p manifest (record { sound = sound; changed = (app, there, fits_without_fault app.manifest manifest no_fault) })

  pub new_grain_fits : (app : AppId) (title : List ℕ) → RowFits s false (NewGrain s who app title)
  new_grain_fits app title =
      some_fits s tt λ owner is.
      unless_fits s tt λ enabled.
      found_fits s tt λ row is_app.
      plain_adds s (GrainAdded (new_grain s.tables app owner.num title)) tt (made_grain s.tables) λ room.
      grain_added_fits s formed (new_grain s.tables app owner.num title) (record {
        num = refl;
        room = room_of kind.Grain 16384 _ room;
        knows = record { app = (row, is_app); owner = listed_account s formed owner is.listed };
      })

  pub trash_fits : (n : GrainId) (on : Bool) → RowFits s false (Trash s who n on)
  trash_fits n on =
      some_fits s tt λ account is.
      unless_fits s tt λ enabled.
      found_fits s tt λ grain there.
      unless_fits s tt λ owned.
      when_fits s tt λ differs.
      plain_adds s (TrashedSet n on) tt nothing_made λ room.
      trashed_set_fits s formed n on (grain, there)
