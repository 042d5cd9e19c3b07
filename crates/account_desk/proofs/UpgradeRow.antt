-- What the row of an upgrade comes to, once its caller is an admin and its application was found.
use Rattle.std.proofs.Common.{◌≡◌, Option, Some, None, refl, subst, inl, inr}
use Rattle.app_manifest.specs.Upgrade.{upgrade_fault}
use Rattle.app_manifest.specs.declared.fault.ManifestFault.{ManifestFault}
use Rattle.app_manifest.proofs.Kept.{no_fault_of_same}
use Rattle.share_graph.specs.declared.event.Event.TheVariants.{AppUpgraded}
use Rattle.share_graph.specs.declared.refusal.Refusal.TheVariants as refusal
use Rattle.share_graph.specs.Rows.{IsApp}
use Rattle.desk_base.specs.Calling.{IsAdminCaller}
use Rattle.desk_base.specs.Made.{nothing_made}
use Rattle.desk_base.specs.Steps.{Step, Refuses, Keeps, Makes, Plain}
use Rattle.desk_base.specs.Terms.{Account, App, AppId, Caller, Manifest, State}
use Rattle.desk_base.specs.Wording.{secret_of}
use Rattle.account_desk.specs.Commands.{UpgradeApp}

module _ (s : State) (who : Caller) (p : AppId) (manifest : Manifest) (admin : Account) (is : IsAdminCaller s (secret_of who) admin) (app : App) (there : IsApp s.tables p app) where
  -- the same manifest changes nothing
  pub keeps_same : app.manifest ≡ manifest → UpgradeApp s who p manifest (Keeps nothing_made)
  keeps_same same =
      let none = subst (λ (m : Manifest). upgrade_fault app.manifest m ≡ None) same (no_fault_of_same app.manifest) in
      inr (admin, is.caller.one, inr (is.caller.enabled, inr (is.admin, inr (app, there, inr (none, inl (refl, same))))))

  -- one that loses something is refused
  pub refuses_lost : (fault : ManifestFault) → upgrade_fault app.manifest manifest ≡ Some fault → UpgradeApp s who p manifest (Refuses (refusal.Manifest fault))
  refuses_lost fault lost = inr (admin, is.caller.one, inr (is.caller.enabled, inr (is.admin, inr (app, there, inl (refusal.Manifest fault, refl, (fault, refl, lost))))))

  -- any other takes the old one's place
  pub makes_upgrade : (app.manifest ≡ manifest → ⊥) → upgrade_fault app.manifest manifest ≡ None → UpgradeApp s who p manifest (Makes (Plain (AppUpgraded p manifest)) nothing_made)
  makes_upgrade differs none = inr (admin, is.caller.one, inr (is.caller.enabled, inr (is.admin, inr (app, there, inr (none, inr (differs, inr (refl, refl)))))))

  -- so it comes to something
  pub comes_to : (app.manifest ≡ manifest → ⊥) → (step : Step) × UpgradeApp s who p manifest step
  comes_to differs = by_fault (upgrade_fault app.manifest manifest) refl
    where
      by_fault : (fault : Option ManifestFault) → upgrade_fault app.manifest manifest ≡ fault → (step : Step) × UpgradeApp s who p manifest step
      by_fault None none = (Makes (Plain (AppUpgraded p manifest)) nothing_made, makes_upgrade differs none)
      by_fault (Some fault) lost = (Refuses (refusal.Manifest fault), refuses_lost fault lost)
