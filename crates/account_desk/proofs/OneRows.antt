-- Of each command the machine makes one thing at the most. A proof goes along the row, check by check.
use Rattle.std.proofs.Common.{◌≡◌, ◌+◌, ◌∙◌, ℕ, Bool, List, Option, Some, None, sym, ap}
use Rattle.std.proofs.lemmas.Option.{same_Some}
use Rattle.app_manifest.specs.declared.fault.ManifestFault.{ManifestFault}
use Rattle.desk_base.specs.Terms.{Account, AccountId, AppId, Caller, Event, GrainId, HasHandle, IsOne, IsOneOf}
use Rattle.desk_base.specs.Terms.{IsWellFormed, Manifest, State}
use Rattle.share_graph.specs.declared.event.Event.TheVariants.{AdminSet, EnabledSet}
use Rattle.share_graph.specs.declared.refusal.Refusal.TheVariants as refusal
use Rattle.share_graph.specs.declared.refusal.Refusal.TheVariants.{HandleTaken}
use Rattle.share_graph.proofs.Contained.{place_of, single}
use Rattle.share_graph.proofs.OneAnswer.{when_one, unless_one, must_one}
use Rattle.state_step.proofs.Sound.{sound_of}
use Rattle.desk_base.specs.Steps.{refusing}
use Rattle.desk_base.proofs.GivenRoles.{refusing_one}
use Rattle.desk_base.proofs.OneWord.{by_account_one, by_admin_one, known_account_one, known_app_one, known_grain_one, adds_one}
use Rattle.account_desk.specs.Commands.{AddAccount, RenewLogin, SetMark, SetAdmin, SetEnabled, AddApp, UpgradeApp, NewGrain, Trash}
use Rattle.account_desk.specs.Rows.{HasUpgradeFault, IsTaken}

module _ (s : State) (formed : IsWellFormed s) where
  -- a handle is one account's
  handle_one : (handle : List ℕ) → IsOne (λ (account : Account). IsOneOf s.tables.accounts (HasHandle handle) account)
  handle_one handle = single (λ (x : Account). x.num.0) s.tables.accounts (HasHandle handle) formed.numbered.accounts λ x y a b.
      let (i, at) = place_of s.tables.accounts x a.listed in
      let (j, there) = place_of s.tables.accounts y b.listed in
      let same : i ≡ j = (sound_of s.tables formed.tables).handles i j x y at there (a.is ∙ sym b.is) in
      formed.numbered.accounts i x at ∙ ap (λ (k : ℕ). k + 1) same ∙ sym (formed.numbered.accounts j y there)

  -- and so it is taken by one
  taken_one : (handle : List ℕ) → IsOne (refusing (IsTaken s.tables handle))
  taken_one handle = refusing_one (IsTaken s.tables handle) λ r q (x, e, one) (y, f, other).
      e ∙ ap (λ (z : Account). HandleTaken z.num) ((handle_one handle).one x y one other) ∙ sym f

module _ (s : State) (formed : IsWellFormed s) (who : Caller) where
  pub add_account_one : (handle name : List ℕ) → IsOne (AddAccount s who handle name)
  add_account_one handle name =
      by_admin_one s formed who λ admin.
      must_one (λ step free taken. free taken.2.0 taken.2.2.listed taken.2.2.is) (taken_one s formed handle) (adds_one s _)

  pub renew_login_one : (num : Option AccountId) → IsOne (RenewLogin s who num)
  renew_login_one None = by_account_one s formed who λ account. adds_one s _
  renew_login_one (Some a) =
      by_admin_one s formed who λ admin.
      known_account_one s a λ account.
      adds_one s _

  mark_one : (mark : Account → Bool) (event : AccountId → Bool → Event) (a : AccountId) (on : Bool) → IsOne (SetMark mark event s who a on)
  mark_one mark event a on =
      by_admin_one s formed who λ admin.
      known_account_one s a λ account.
      when_one (when_one (adds_one s _))

  pub set_admin_one : (a : AccountId) (on : Bool) → IsOne (SetAdmin s who a on)
  set_admin_one a on = mark_one _ AdminSet a on

  pub set_enabled_one : (a : AccountId) (on : Bool) → IsOne (SetEnabled s who a on)
  set_enabled_one a on = mark_one _ EnabledSet a on

  pub add_app_one : (manifest : Manifest) → IsOne (AddApp s who manifest)
  add_app_one manifest = by_admin_one s formed who λ admin. adds_one s _

  -- an upgrade has one first fault
  fault_one : (old new : Manifest) → IsOne (refusing (HasUpgradeFault old new))
  fault_one old new = refusing_one (HasUpgradeFault old new) λ r q (x, e, one) (y, f, other).
      let same : x ≡ y = same_Some x y (sym one ∙ other) in
      e ∙ ap (λ z. refusal.Manifest z) same ∙ sym f

  pub upgrade_app_one : (p : AppId) (manifest : Manifest) → IsOne (UpgradeApp s who p manifest)
  upgrade_app_one p manifest =
      by_admin_one s formed who λ admin.
      known_app_one s p λ app.
      must_one (λ step none (r, is, (fault, e, some)). no_fault fault (sym none ∙ some)) (fault_one app.manifest manifest) (when_one (adds_one s _))
    where
      no_fault : (fault : ManifestFault) → None ≡ Some fault → ⊥
      no_fault fault e = cc e

  pub new_grain_one : (app : AppId) (title : List ℕ) → IsOne (NewGrain s who app title)
  new_grain_one app title = by_account_one s formed who λ owner. known_app_one s app λ row. adds_one s _

  pub trash_one : (n : GrainId) (on : Bool) → IsOne (Trash s who n on)
  trash_one n on =
      by_account_one s formed who λ account.
      known_grain_one s n λ grain.
      unless_one (when_one (adds_one s _))
