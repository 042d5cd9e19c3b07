-- What is decided of an order before anything outside is asked.
use Rattle.std.specs.Prelude.{ℕ}
use Rattle.desk_orders.specs.Terms.{Decision, Digest, draft_step, EventFits, IsUnused, Keeps, Makes, Plain, Ready, Refuses, StartsNoRun, State, Step, with_digest}
use Rattle.desk_orders.specs.declared.deciding.Decision.TheVariants as decision

-- by the row of its command, at n entries: what is ready
abbrev pub Decides : ℕ → (Step → Type 0) → Decision → Type 0
Decides n Row (decision.Refused r) = Ready n Row (Refuses r)
Decides n Row (decision.Same made) = Ready n Row (Keeps made)
Decides n Row (decision.Draft draft) = Ready n Row (draft_step draft)
Decides n Row (decision.Change e made) = Ready n Row (Makes (Plain e) made)
Decides n Row decision.Memory = Unit {0}

-- a secret is to be drawn
abbrev pub IsDraft : Decision → Type 0
IsDraft (decision.Draft draft) = Unit {0}
IsDraft _ = ⊥

-- a change that is decided fits and starts no run, and a draft fits with each digest that no row has
abbrev pub FitsIfDecided : State → Decision → Type 0
FitsIfDecided s (decision.Change e made) = EventFits s e × StartsNoRun e
FitsIfDecided s (decision.Draft draft) = (d : Digest) → IsUnused s d → EventFits s (with_digest draft.event d)
FitsIfDecided s _ = Unit {0}
