-- An application that is added, or gets a new manifest, leaves a well-formed state so.
use Rattle.std.proofs.Common.{◌≡◌, ◌≤◌, ℕ, List, Some, [], ◌∷◌, ◌++◌, length, refl, sym, ◌∙◌, subst, inl, inr, arith, length-append}
use Rattle.app_manifest.specs.Upgrade.{StillFits}
use Rattle.app_manifest.specs.declared.manifest.Manifest.{Manifest}
use Rattle.host_base.specs.declared.ids.AppId.{AppId}
use Rattle.share_graph.specs.declared.event.Event.TheVariants as event
use Rattle.share_graph.specs.declared.rows.App.{App}
use Rattle.share_graph.specs.declared.state.State.{State}
use Rattle.share_graph.specs.declared.state.Tables.{Tables}
use Rattle.share_graph.specs.Changing.{change_row}
use Rattle.share_graph.specs.EventFits.{EventFits}
use Rattle.share_graph.specs.Fitting.{IsSoundManifest}
use Rattle.share_graph.specs.Rows.{row, IsApp}
use Rattle.share_graph.specs.Setting.{with_manifest}
use Rattle.share_graph.specs.WellFormed.{IsWellFormed}
use Rattle.share_graph.proofs.Marked.{change_row_other, row_changed, same_number}
use Rattle.state_step.specs.NewRows.{IsNewApp, IsNewManifest}
use Rattle.state_step.proofs.Each.{push_old_row, each_pushed, numbered_pushed}
use Rattle.state_step.proofs.Extending.{Extends, fits_same, knows_of_grain}
use Rattle.state_step.proofs.NextTables.{still_sound_grant, still_sound_saved, next_tables, tables_numbered}
use Rattle.state_step.proofs.Sound.{sound_of}
use Rattle.state_step.proofs.Touched.{AreTouched, change_row_touches, length_touched, each_touched, numbered_touched}

-- a new application fits
pub app_added_fits : (s : State) → IsWellFormed s → (app : App) → IsNewApp s app → EventFits s (event.AppAdded app)
app_added_fits s formed app new =
    let u : Tables = record s.tables { apps = s.tables.apps ++ app ∷ [] } in
    let sound = sound_of s.tables formed.tables in
    let numbered = tables_numbered s formed in
    let room = new.room in
    let more : Extends s.tables u = record {
      accounts = λ a is. is;
      apps = λ p x is. (x, push_old_row s.tables.apps (app ∷ []) p.0 x is, fits_same x.manifest);
      grains = λ n x is. (x, is, refl);
      grants = λ g x is. (x, is, refl, refl);
    } in
    record {
      changed = tt;
      formed = next_tables s formed u (record {
        more = more;
        sound = record {
          formed = sound.formed;
          handles = sound.handles;
          apps = each_pushed (λ k (x : App). IsSoundManifest x.manifest) s.tables.apps app sound.apps new.sound;
          grains = λ k grain is. knows_of_grain s.tables u more grain (sound.grains k grain is);
          grants = λ k grant is. still_sound_grant s.tables u more k grant (sound.grants k grant is);
          saved = λ k saved is. still_sound_saved s.tables u more saved (sound.saved k saved is);
        };
        limits = record {
          accounts = formed.limits.accounts;
          apps = omega (arith, length-append {A = App});
          grains = formed.limits.grains;
          grants = formed.limits.grants;
          saved = formed.limits.saved;
        };
        numbered = record {
          accounts = numbered.accounts;
          apps = numbered_pushed (λ (x : App). x.num.0) s.tables.apps app numbered.apps new.num;
          grains = numbered.grains;
          grants = numbered.grants;
          saved = numbered.saved;
        };
        apart = record { one = formed.apart.one };
      });
    }

module _ (s : State) (p : AppId) (manifest : Manifest) (due : IsNewManifest s p manifest) where
  abbrev new : List App
  new = change_row (with_manifest manifest) s.tables.apps p.0

  -- each application is there again, and what fitted its manifest fits the one that it has now
  still_there : (q : AppId) (x : App) → IsApp s.tables q x → (y : App) × (row new q.0 ≡ Some y) × StillFits x.manifest y.manifest
  still_there q x is =
      elim (same_number q.0 p.0) [
        | inl same ↦
            let (app, there, still) = due.changed in
            let was : row s.tables.apps p.0 ≡ Some x = subst (λ (k : ℕ). row s.tables.apps k ≡ Some x) same is in
            let one : app ≡ x = cc in (
              with_manifest manifest x,
              subst (λ (k : ℕ). row new k ≡ Some (with_manifest manifest x)) (sym same) (row_changed (with_manifest manifest) s.tables.apps p.0 x was),
              subst (λ (z : App). StillFits z.manifest manifest) one still,
            )
        | inr apart ↦ (x, change_row_other (with_manifest manifest) s.tables.apps p.0 q.0 apart ∙ is, fits_same x.manifest)
      ]

-- a new manifest of an application fits
pub app_upgraded_fits : (s : State) → IsWellFormed s → (p : AppId) (manifest : Manifest) → IsNewManifest s p manifest → EventFits s (event.AppUpgraded p manifest)
app_upgraded_fits s formed p manifest due =
    let f = with_manifest manifest in
    let xs = s.tables.apps in
    let ys = change_row f s.tables.apps p.0 in
    let u : Tables = record s.tables { apps = ys } in
    let sound = sound_of s.tables formed.tables in
    let numbered = tables_numbered s formed in
    let touched : AreTouched f xs ys = change_row_touches f xs p.0 in
    let more : Extends s.tables u = record {
      accounts = λ a is. is;
      apps = still_there s p manifest due;
      grains = λ n x is. (x, is, refl);
      grants = λ g x is. (x, is, refl, refl);
    } in
    record {
      changed = due.changed;
      formed = next_tables s formed u (record {
        more = more;
        sound = record {
          formed = sound.formed;
          handles = sound.handles;
          apps = each_touched f (λ k (x : App). IsSoundManifest x.manifest) (λ k x was. due.sound) xs ys touched sound.apps;
          grains = λ k grain is. knows_of_grain s.tables u more grain (sound.grains k grain is);
          grants = λ k grant is. still_sound_grant s.tables u more k grant (sound.grants k grant is);
          saved = λ k saved is. still_sound_saved s.tables u more saved (sound.saved k saved is);
        };
        limits = record {
          accounts = formed.limits.accounts;
          apps = subst (λ (len : ℕ). len ≤ 256) (length_touched f xs ys touched) formed.limits.apps;
          grains = formed.limits.grains;
          grants = formed.limits.grants;
          saved = formed.limits.saved;
        };
        numbered = record {
          accounts = numbered.accounts;
          apps = numbered_touched f (λ (x : App). x.num.0) (λ x. refl) xs ys touched numbered.apps;
          grains = numbered.grains;
          grants = numbered.grants;
          saved = numbered.saved;
        };
        apart = record { one = formed.apart.one };
      });
    }
