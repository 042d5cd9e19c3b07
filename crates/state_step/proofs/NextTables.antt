-- A well-formed state with other tables: what is owed for them.
use Rattle.std.proofs.Common.{ℕ}
use Rattle.share_graph.specs.declared.grants.Grant.{Grant}
use Rattle.share_graph.specs.declared.rows.Account.{Account}
use Rattle.share_graph.specs.declared.rows.App.{App}
use Rattle.share_graph.specs.declared.rows.Grain.{Grain}
use Rattle.share_graph.specs.declared.rows.Saved.{Saved}
use Rattle.share_graph.specs.declared.state.State.{State}
use Rattle.share_graph.specs.declared.state.Tables.{Tables}
use Rattle.share_graph.specs.Kinds.{AreApart}
use Rattle.share_graph.specs.WellFormed.{AreNumbered, IsNumbered, IsWithinLimits, IsWellFormed}
use Rattle.state_step.proofs.Extending.{Extends, knows_of_grant, knows_of_saved, has_parent, sets_fit, is_reference, rooted}
use Rattle.state_step.proofs.Sound.{SoundGrant, IsSoundSaved, IsSound, checked_of}

-- the state with these tables
abbrev pub with_tables : State → Tables → State
with_tables s u = record s { tables = u }

-- each table is numbered
pub record AreTablesNumbered (t : Tables) : Type 0 where
  pub accounts : AreNumbered (λ (account : Account). account.num.0) t.accounts
  pub apps : AreNumbered (λ (app : App). app.num.0) t.apps
  pub grains : AreNumbered (λ (grain : Grain). grain.num.0) t.grains
  pub grants : AreNumbered (λ (grant : Grant). grant.num.0) t.grants
  pub saved : AreNumbered (λ (saved : Saved). saved.num.0) t.saved

-- The tables may come next in the state.
pub record AreNextTables (s : State) (u : Tables) : Type 0 where
  pub more : Extends s.tables u
  pub sound : IsSound u
  pub limits : IsWithinLimits u
  pub numbered : AreTablesNumbered u
  pub apart : AreApart (with_tables s u)

-- a grant that was sound is so by tables that extend those
pub still_sound_grant : (t u : Tables) → Extends t u → (k : ℕ) (grant : Grant) → SoundGrant t k grant → SoundGrant u k grant
still_sound_grant t u more k grant sound = record {
  knows = knows_of_grant t u more grant sound.knows;
  parent = has_parent t u more grant sound.parent;
  earlier = sound.earlier;
  sets = sets_fit t u more grant sound.sets;
  shares = sound.shares;
}

-- and so is a saved reference
pub still_sound_saved : (t u : Tables) → Extends t u → (saved : Saved) → IsSoundSaved t saved → IsSoundSaved u saved
still_sound_saved t u more saved sound = record { knows = knows_of_saved t u more saved sound.knows; reference = is_reference t u more saved sound.reference }

-- the state with them is well formed
pub next_tables : (s : State) → IsWellFormed s → (u : Tables) → AreNextTables s u → IsWellFormed (with_tables s u)
next_tables s formed u next =
    let numbered : IsNumbered (with_tables s u) = record {
      accounts = next.numbered.accounts;
      apps = next.numbered.apps;
      grains = next.numbered.grains;
      grants = next.numbered.grants;
      saved = next.numbered.saved;
      sessions = formed.numbered.sessions;
      runs = formed.numbered.runs;
      handles = formed.numbered.handles;
    } in
    record {
      tables = checked_of (with_tables s u) next.apart numbered next.sound;
      limits = next.limits;
      numbered = numbered;
      apart = next.apart;
      live = formed.live;
      rooted = rooted s.tables u next.more s.sessions s.runs s.handles formed.rooted;
    }

-- the tables of a well-formed state are numbered
pub tables_numbered : (s : State) → IsWellFormed s → AreTablesNumbered s.tables
tables_numbered s formed = record {
  accounts = formed.numbered.accounts;
  apps = formed.numbered.apps;
  grains = formed.numbered.grains;
  grants = formed.numbered.grants;
  saved = formed.numbered.saved;
}
