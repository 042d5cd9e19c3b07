-- Ticks of the clock: which grants end by one, and what is answered to it.
use Rattle.std.specs.Prelude.{◌≡◌, ◌≤◌, ℕ, nat_le, Bool, true, false, List, [], ◌∷◌, ◌++◌, Option, Some, None, Result, Ok, Err, count_by}
use Rattle.host_base.specs.declared.bytes.Memory.{Memory}
use Rattle.hub_core.specs.Terms.{EndsBy, Event, Grant, GrantId, replay, State, Tables}
use Rattle.share_graph.specs.declared.event.Event.TheVariants as event

-- some grant ends by a tick to the moment
abbrev pub EndsSome : Tables → ℕ → Type 0
EndsSome t m = (g : GrantId) × (grant : Grant) × EndsBy t m g grant

-- how many grants have ended by themselves
abbrev pub has_come : ℕ → Option ℕ → Bool
has_come now None = false
has_come now (Some end) = nat_le end now

abbrev pub ended : Tables → ℕ
ended t = count_by (λ grant. has_come t.moment grant.expires) t.grants

-- THE ANSWER TO A TICK at a state: yes exactly where some grant ends by it; want of memory is free
abbrev pub IsTick : State → ℕ → Result Bool Memory → Type 0
IsTick s m (Ok true) = EndsSome s.tables m
IsTick s m (Ok false) = EndsSome s.tables m → ⊥
IsTick s m (Err memory) = Unit {0}

-- what a tick adds: itself, where it was answered by yes
abbrev pub added_by : ℕ → Result Bool Memory → List Event
added_by m (Ok true) = event.Ticked m ∷ []
added_by m (Ok false) = []
added_by m (Err memory) = []

-- THE CLOCK NEVER GOES BACK: after fewer of the entries the moment isn't later than after all of them
abbrev pub NeverBack : State → List Event → Type 0
NeverBack start entries =
    (before rest : List Event) → entries ≡ before ++ rest
    → (replay start before).tables.moment ≤ (replay start entries).tables.moment
