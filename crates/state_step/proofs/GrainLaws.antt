-- A grain that is added, or put into the trash or out of it, leaves a well-formed state so.
use Rattle.std.proofs.Common.{◌≡◌, ◌≤◌, ℕ, Bool, List, [], ◌∷◌, ◌++◌, length, refl, subst, arith, length-append}
use Rattle.host_base.specs.declared.ids.GrainId.{GrainId}
use Rattle.share_graph.specs.declared.event.Event.TheVariants as event
use Rattle.share_graph.specs.declared.rows.Grain.{Grain}
use Rattle.share_graph.specs.declared.state.State.{State}
use Rattle.share_graph.specs.declared.state.Tables.{Tables}
use Rattle.share_graph.specs.Changing.{change_row}
use Rattle.share_graph.specs.EventFits.{EventFits}
use Rattle.share_graph.specs.Known.{HasGrain, KnowsOfGrain}
use Rattle.share_graph.specs.Rows.{IsGrain}
use Rattle.share_graph.specs.Setting.{with_trashed}
use Rattle.share_graph.specs.WellFormed.{AreNumbered, IsWellFormed}
use Rattle.state_step.specs.NewRows.{IsNewGrain}
use Rattle.state_step.proofs.Each.{Each, push_old_row, each_pushed, numbered_pushed}
use Rattle.state_step.proofs.Extending.{Extends, fits_same, knows_of_grain}
use Rattle.state_step.proofs.NextTables.{with_tables, still_sound_grant, still_sound_saved, next_tables, tables_numbered}
use Rattle.state_step.proofs.Sound.{sound_of}
use Rattle.state_step.proofs.Touched.{AreTouched, change_row_touches, touched_row, same_key, length_touched, each_touched, numbered_touched}

abbrev with_grains : Tables → List Grain → Tables
with_grains t grains = record t { grains = grains }

-- The grains may come next in the state.
record AreNextGrains (s : State) (grains : List Grain) : Type 0 where
  there : (n : GrainId) (x : Grain) → IsGrain s.tables n x → (y : Grain) × IsGrain (with_grains s.tables grains) n y × (y.app ≡ x.app)
  few : length grains ≤ 16384
  numbered : AreNumbered (λ (grain : Grain). grain.num.0) grains
  knows : Each (λ k (grain : Grain). KnowsOfGrain s.tables grain) grains

-- the state with them is well formed
next_grains : (s : State) → IsWellFormed s → (grains : List Grain) → AreNextGrains s grains → IsWellFormed (with_tables s (with_grains s.tables grains))
next_grains s formed grains next =
    let u = with_grains s.tables grains in
    let sound = sound_of s.tables formed.tables in
    let numbered = tables_numbered s formed in
    let more : Extends s.tables u = record {
      accounts = λ a is. is;
      apps = λ p x is. (x, is, fits_same x.manifest);
      grains = next.there;
      grants = λ g x is. (x, is, refl, refl);
    } in
    next_tables s formed u (record {
      more = more;
      sound = record {
        formed = sound.formed;
        handles = sound.handles;
        apps = sound.apps;
        grains = λ k grain is. knows_of_grain s.tables u more grain (next.knows k grain is);
        grants = λ k grant is. still_sound_grant s.tables u more k grant (sound.grants k grant is);
        saved = λ k saved is. still_sound_saved s.tables u more saved (sound.saved k saved is);
      };
      limits = record { accounts = formed.limits.accounts; apps = formed.limits.apps; grains = next.few; grants = formed.limits.grants; saved = formed.limits.saved };
      numbered = record { accounts = numbered.accounts; apps = numbered.apps; grains = next.numbered; grants = numbered.grants; saved = numbered.saved };
      apart = record { one = formed.apart.one };
    })

-- a new grain fits
pub grain_added_fits : (s : State) → IsWellFormed s → (grain : Grain) → IsNewGrain s grain → EventFits s (event.GrainAdded grain)
grain_added_fits s formed grain new =
    let sound = sound_of s.tables formed.tables in
    let room = new.room in
    record {
      changed = tt;
      formed = next_grains s formed (s.tables.grains ++ grain ∷ []) (record {
        there = λ n x is. (x, push_old_row s.tables.grains (grain ∷ []) n.0 x is, refl);
        few = omega (arith, length-append {A = Grain});
        numbered = numbered_pushed (λ (x : Grain). x.num.0) s.tables.grains grain formed.numbered.grains new.num;
        knows = each_pushed (λ k (x : Grain). KnowsOfGrain s.tables x) s.tables.grains grain sound.grains new.knows;
      });
    }

-- a grain that is there may be put into the trash, or out of it
pub trashed_set_fits : (s : State) → IsWellFormed s → (n : GrainId) (on : Bool) → HasGrain s.tables n → EventFits s (event.TrashedSet n on)
trashed_set_fits s formed n on there =
    let sound = sound_of s.tables formed.tables in
    let f = with_trashed on in
    let xs = s.tables.grains in
    let ys = change_row f s.tables.grains n.0 in
    let touched : AreTouched f xs ys = change_row_touches f xs n.0 in
    record {
      changed = there;
      formed = next_grains s formed ys (record {
        there = λ m x is. (let (y, again, same) = touched_row f xs ys touched m.0 x is in (y, again, same_key f (λ (z : Grain). z.app) (λ z. refl) x y same));
        few = subst (λ (len : ℕ). len ≤ 16384) (length_touched f xs ys touched) formed.limits.grains;
        numbered = numbered_touched f (λ (x : Grain). x.num.0) (λ x. refl) xs ys touched formed.numbered.grains;
        knows = each_touched f (λ k (x : Grain). KnowsOfGrain s.tables x) (λ k x knows. record { app = knows.app; owner = knows.owner }) xs ys touched sound.grains;
      });
    }
