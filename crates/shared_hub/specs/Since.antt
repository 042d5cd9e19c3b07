-- What a history that many threads share is, and what the objects beside it were told since it began.
use Rattle.std.specs.Prelude.{◌≡◌, ◌++◌, ℕ, List, [], ◌∷◌, Some}
use Rattle.desk_base.specs.Terms.{after, Event, RunId, State}
use Rattle.share_graph.specs.declared.event.Event.TheVariants as event
use Rattle.grain_supervise.specs.declared.start.Start.{Start}
use Rattle.grain_supervise.specs.Spawning.{Spawns}
use Rattle.desk_orders.specs.Secrets.{DrawsAll, text_digest}
use Rattle.hub_core.specs.Book.{Backing, CountsOn}
use Rattle.hub_core.specs.Sharing.{Sharing}
use Rattle.hub_core.specs.Spawning.{IsOfApp, stops_by}

-- What a history was when it began to be shared: its state, and what the objects beside it told.
pub record Begun : Type 0 where
  pub start : State
  pub holds : Backing

abbrev pub begun_of : {K : Type 0} → Sharing K → Begun
begun_of sharing = record { start = sharing.start; holds = sharing.holds }

-- A history that many share: what it was when it began, its entries since, and what the objects beside it tell.
pub record Common : Type 0 where
  pub began : Begun
  pub history : List Event
  pub holds : Backing

-- what an event starts: one run where it is that of a run's start, by the program of its grain's application in the state
-- before, and with the token whose digest the run has
abbrev pub IsStartOf : State → Event → List Start → Type 0
IsStartOf s (event.RunStarted run) starts = (start : Start) × (starts ≡ start ∷ []) × (start.run ≡ run.num)
    × (start.grain ≡ run.grain) × IsOfApp s start.app (event.RunStarted run) × (run.digest ≡ text_digest start.token)
IsStartOf s _ starts = starts ≡ []

-- what entries start, one after another
abbrev pub AreStartsOf : State → List Event → List Start → Type 0
AreStartsOf s [] starts = starts ≡ []
AreStartsOf s (e ∷ entries) starts = (first rest : List Start) × (starts ≡ first ++ rest) × IsStartOf s e first
    × AreStartsOf (after s e) entries rest

-- SINCE A HISTORY BEGAN the spawner was told one start for each run that its entries start, with the run's token and the
-- application of its grain there, and one stop for each run that they stop, in order, and nothing else.
pub record SpawnedSince (start : State) (old new : Spawns) (entries : List Event) : Type 0 where
  pub starts : (told : List Start) → old.starts ≡ Some told
      → (starts : List Start) × (new.starts ≡ Some (told ++ starts)) × AreStartsOf start entries starts
  pub stops : (told : List RunId) → old.stops ≡ Some told → new.stops ≡ Some (told ++ stops_by entries)

-- SINCE A HISTORY BEGAN no count of faults fell, secrets were drawn in their order, and the spawner was told what the
-- entries want.
pub record HasKept (start : State) (began holds : Backing) (history : List Event) : Type 0 where
  pub counts : CountsOn began holds
  pub drawn : List (List ℕ)
  pub draws : DrawsAll began.drawer.coming holds.drawer.coming drawn
  pub spawned : SpawnedSince start began.spawns holds.spawns history
