-- What a spawner is told of what happens to the runs of grains.
use Rattle.std.specs.Prelude.{◌≡◌, ◌++◌, ℕ, List, [], ◌∷◌, Some, option_map}
use Rattle.std.specs.List.{flat_map}
use Rattle.hub_core.specs.Terms.{after, AppId, Asked, Event, row, RunId, secret_text, Spawns, Start, State, text_digest}
use Rattle.share_graph.specs.declared.event.Event.TheVariants as event

-- the starts that an event wants: of the run that it starts, by the program of an application, with its token
abbrev pub starts_of : Event → AppId → List ℕ → List Start
starts_of (event.RunStarted run) app token =
    record { run = run.num; grain = run.grain; app = app; token = token } ∷ []
starts_of _ app token = []

-- the stops that an event wants: of the run that it stops
abbrev pub stops_of : Event → List RunId
stops_of (event.RunStopped r) = r ∷ []
stops_of _ = []

-- the starts and the stops that entries want, in their order
abbrev pub starts_by : AppId → List ℕ → List Event → List Start
starts_by app token entries = flat_map (λ e. starts_of e app token) entries

abbrev pub stops_by : List Event → List RunId
stops_by entries = flat_map stops_of entries

-- The spawner was told these starts and stops, and nothing else.
pub record WasTold (old new : Spawns) (starts_now : List Start) (stops_now : List RunId) : Type 0 where
  pub starts : (told : List Start) → old.starts ≡ Some told → new.starts ≡ Some (told ++ starts_now)
  pub stops : (told : List RunId) → old.stops ≡ Some told → new.stops ≡ Some (told ++ stops_now)

-- It was told what entries want, and nothing else.
abbrev pub Spawned : Spawns → Spawns → AppId → List ℕ → List Event → Type 0
Spawned old new app token entries = WasTold old new (starts_by app token entries) (stops_by entries)

-- The spawner was told nothing.
pub record Untold (old new : Spawns) : Type 0 where
  pub starts : new.starts ≡ old.starts
  pub stops : new.stops ≡ old.stops

-- the token that an order's secret is, by its text
abbrev pub token_of : Asked → List (List ℕ) → List ℕ
token_of order [] = []
token_of order (secret ∷ rest) = secret_text order.command secret

-- a run that an event starts is of a grain that has this application in the state before
abbrev pub IsOfApp : State → AppId → Event → Type 0
IsOfApp s app (event.RunStarted run) =
    option_map (λ grain. grain.app) (row s.tables.grains run.grain.0) ≡ Some app
IsOfApp s app _ = Unit {0}

-- so is each that entries start, one after another
abbrev pub AreOfApp : State → AppId → List Event → Type 0
AreOfApp s app [] = Unit {0}
AreOfApp s app (e ∷ more) = IsOfApp s app e × AreOfApp (after s e) app more

-- a run that an event starts has the digest of the token
abbrev pub HasToken : List ℕ → Event → Type 0
HasToken token (event.RunStarted run) = run.digest ≡ text_digest token
HasToken token _ = Unit {0}

-- each run that entries start has it
abbrev pub HaveToken : List ℕ → List Event → Type 0
HaveToken token [] = Unit {0}
HaveToken token (e ∷ more) = HasToken token e × HaveToken token more
