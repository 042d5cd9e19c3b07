-- A saved reference that is added or dropped leaves a well-formed state so.
use Rattle.std.proofs.Common.{◌≡◌, ◌≤◌, ℕ, List, [], ◌∷◌, ◌++◌, Option, Some, None, length, refl, subst, arith, length-append}
use Rattle.host_base.specs.declared.ids.SavedId.{SavedId}
use Rattle.share_graph.specs.declared.event.Event.TheVariants as event
use Rattle.share_graph.specs.declared.fault.Kind.TheVariants as kind
use Rattle.share_graph.specs.declared.rows.Saved.{Saved}
use Rattle.share_graph.specs.declared.state.State.{State}
use Rattle.share_graph.specs.declared.state.Tables.{Tables}
use Rattle.share_graph.specs.Changing.{change_row}
use Rattle.share_graph.specs.EventFits.{EventFits}
use Rattle.share_graph.specs.Kinds.{KnownDigest, IsUnused}
use Rattle.share_graph.specs.Rows.{IsSaved}
use Rattle.share_graph.specs.Setting.{dropped}
use Rattle.share_graph.specs.WellFormed.{AreNumbered, IsWellFormed}
use Rattle.share_graph.proofs.Apart.{logins, tokens, references, keys, run_tokens}
use Rattle.state_step.specs.NewRows.{IsNewReference}
use Rattle.state_step.proofs.Digests.{Adds, adds_none, adds_pushed, apart_after, one_unused, none_unused}
use Rattle.state_step.proofs.Each.{Each, each_pushed, numbered_pushed}
use Rattle.state_step.proofs.Extending.{Extends, fits_same, knows_of_grain}
use Rattle.state_step.proofs.NextTables.{with_tables, still_sound_grant, still_sound_saved, next_tables, tables_numbered}
use Rattle.state_step.proofs.Sound.{IsSoundSaved, sound_of}
use Rattle.state_step.proofs.Touched.{AreTouched, change_row_touches, length_touched, each_touched, numbered_touched, map_touched}

abbrev with_saved : Tables → List Saved → Tables
with_saved t saved = record t { saved = saved }

-- the digest of a saved reference's token, with its number
abbrev reference_of : Saved → KnownDigest
reference_of saved = record { kind = kind.Saved; num = saved.num.0; digest = saved.digest }

-- The saved references may come next in the state: with one token more, which was unused, or with none.
record AreNextSaved (s : State) (saved : List Saved) (added : Option KnownDigest) : Type 0 where
  few : length saved ≤ 65536
  numbered : AreNumbered (λ (row : Saved). row.num.0) saved
  sound : Each (λ k (row : Saved). IsSoundSaved s.tables row) saved
  adds : Adds added (references s) (references (with_tables s (with_saved s.tables saved)))
  unused : (e : KnownDigest) → added ≡ Some e → IsUnused s e.digest

-- the state with them is well formed
next_saved : (s : State) → IsWellFormed s → (saved : List Saved) (added : Option KnownDigest) → AreNextSaved s saved added → IsWellFormed (with_tables s (with_saved s.tables saved))
next_saved s formed saved added next =
    let u = with_saved s.tables saved in
    let sound = sound_of s.tables formed.tables in
    let numbered = tables_numbered s formed in
    let more : Extends s.tables u = record {
      accounts = λ a is. is;
      apps = λ p x is. (x, is, fits_same x.manifest);
      grains = λ n x is. (x, is, refl);
      grants = λ g x is. (x, is, refl, refl);
    } in
    next_tables s formed u (record {
      more = more;
      sound = record {
        formed = sound.formed;
        handles = sound.handles;
        apps = sound.apps;
        grains = λ k grain is. knows_of_grain s.tables u more grain (sound.grains k grain is);
        grants = λ k grant is. still_sound_grant s.tables u more k grant (sound.grants k grant is);
        saved = λ k row is. still_sound_saved s.tables u more row (next.sound k row is);
      };
      limits = record { accounts = formed.limits.accounts; apps = formed.limits.apps; grains = formed.limits.grains; grants = formed.limits.grants; saved = next.few };
      numbered = record { accounts = numbered.accounts; apps = numbered.apps; grains = numbered.grains; grants = numbered.grants; saved = next.numbered };
      apart = apart_after added s (with_tables s u) formed.apart next.unused (record {
        accounts = adds_none added (logins s) (logins s) refl;
        grants = adds_none added (tokens s) (tokens s) refl;
        saved = next.adds;
        sessions = adds_none added (keys s) (keys s) refl;
        runs = adds_none added (run_tokens s) (run_tokens s) refl;
      });
    })

-- a new saved reference fits
pub saved_added_fits : (s : State) → IsWellFormed s → (saved : Saved) → IsNewReference s saved → EventFits s (event.SavedAdded saved)
saved_added_fits s formed saved new =
    let sound = sound_of s.tables formed.tables in
    let room = new.room in
    record {
      changed = tt;
      formed = next_saved s formed (s.tables.saved ++ saved ∷ []) (Some (reference_of saved)) (record {
        few = omega (arith, length-append {A = Saved});
        numbered = numbered_pushed (λ (row : Saved). row.num.0) s.tables.saved saved formed.numbered.saved new.num;
        sound = each_pushed (λ k (row : Saved). IsSoundSaved s.tables row) s.tables.saved saved sound.saved (record { knows = new.knows; reference = new.reference });
        adds = adds_pushed reference_of s.tables.saved saved;
        unused = one_unused s (reference_of saved) new.unused;
      });
    }

-- a dropped reference is as sound as it was
dropped_sound : (t : Tables) (saved : Saved) → IsSoundSaved t saved → IsSoundSaved t (dropped saved)
dropped_sound t saved sound = let knows = sound.knows in record { knows = record { holder = knows.holder; grant = knows.grant }; reference = sound.reference }

-- a saved reference that is there may be dropped
pub saved_dropped_fits : (s : State) → IsWellFormed s → (v : SavedId) → (saved : Saved) × IsSaved s.tables v saved → EventFits s (event.SavedDropped v)
saved_dropped_fits s formed v there =
    let sound = sound_of s.tables formed.tables in
    let xs = s.tables.saved in
    let ys = change_row dropped s.tables.saved v.0 in
    let touched : AreTouched dropped xs ys = change_row_touches dropped xs v.0 in
    record {
      changed = there;
      formed = next_saved s formed ys None (record {
        few = subst (λ (len : ℕ). len ≤ 65536) (length_touched dropped xs ys touched) formed.limits.saved;
        numbered = numbered_touched dropped (λ (row : Saved). row.num.0) (λ x. refl) xs ys touched formed.numbered.saved;
        sound = each_touched dropped (λ k (row : Saved). IsSoundSaved s.tables row) (λ k row. dropped_sound s.tables row) xs ys touched sound.saved;
        adds = adds_none None (references s) _ (map_touched dropped reference_of (λ x. refl) xs ys touched);
        unused = none_unused s;
      });
    }
