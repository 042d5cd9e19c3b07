-- A tick of the clock leaves a well-formed state so.
use Rattle.std.proofs.Common.{◌<◌, ℕ, refl}
use Rattle.share_graph.specs.declared.event.Event.TheVariants as event
use Rattle.share_graph.specs.declared.state.State.{State}
use Rattle.share_graph.specs.declared.state.Tables.{Tables}
use Rattle.share_graph.specs.EventFits.{EventFits}
use Rattle.share_graph.specs.WellFormed.{IsWellFormed}
use Rattle.state_step.proofs.Extending.{Extends, fits_same, knows_of_grain}
use Rattle.state_step.proofs.NextTables.{with_tables, still_sound_grant, still_sound_saved, next_tables, tables_numbered}
use Rattle.state_step.proofs.Sound.{sound_of}

abbrev pub at_moment : Tables → ℕ → Tables
at_moment t m = record t { moment = m }

-- the rows stay, and no digest comes or goes
pub ticked_formed : (s : State) → IsWellFormed s → (m : ℕ) → IsWellFormed (with_tables s (at_moment s.tables m))
ticked_formed s formed m =
    let u : Tables = at_moment s.tables m in
    let sound = sound_of s.tables formed.tables in
    let numbered = tables_numbered s formed in
    let more : Extends s.tables u = record {
      accounts = λ a (x, is). (x, is);
      apps = λ p x is. (x, is, fits_same x.manifest);
      grains = λ n x is. (x, is, refl);
      grants = λ g x is. (x, is, refl, refl);
    } in
    next_tables s formed u (record {
      more = more;
      sound = record {
        formed = sound.formed;
        handles = sound.handles;
        apps = sound.apps;
        grains = λ k grain is. knows_of_grain s.tables u more grain (sound.grains k grain is);
        grants = λ k grant is. still_sound_grant s.tables u more k grant (sound.grants k grant is);
        saved = λ k saved is. still_sound_saved s.tables u more saved (sound.saved k saved is);
      };
      limits = record {
        accounts = formed.limits.accounts;
        apps = formed.limits.apps;
        grains = formed.limits.grains;
        grants = formed.limits.grants;
        saved = formed.limits.saved;
      };
      numbered = record {
        accounts = numbered.accounts;
        apps = numbered.apps;
        grains = numbered.grains;
        grants = numbered.grants;
        saved = numbered.saved;
      };
      apart = record { one = formed.apart.one };
    })

-- a tick whose moment is above the last one fits
pub ticked_fits : (s : State) → IsWellFormed s → (m : ℕ) → s.tables.moment < m → EventFits s (event.Ticked m)
ticked_fits s formed m later = record { changed = later; formed = ticked_formed s formed m }
