-- What a desk answers, by the row of its command.
use Rattle.std.specs.Prelude.{◌≡◌, ℕ, Some, Result, Ok, Err}
use Rattle.desk_base.specs.Terms.{DeskFault, Digest, Event, HasDigest, IsUnused, Kind, Made, Refusal, State}
use Rattle.share_graph.specs.declared.desk.DeskFault.TheVariants as fault
use Rattle.share_graph.specs.declared.event.Event.TheVariants as event
use Rattle.share_graph.specs.declared.refusal.Refusal.TheVariants.{TokenClash}
use Rattle.desk_base.specs.declared.outcome.Draft.{Draft}
use Rattle.desk_base.specs.declared.outcome.Outcome.{Outcome}
use Rattle.desk_base.specs.declared.outcome.Outcome.TheVariants as outcome
use Rattle.desk_base.specs.declared.stop.Stop.{Stop}
use Rattle.desk_base.specs.declared.stop.Stop.TheVariants as stop
use Rattle.desk_base.specs.Made.{nothing_made}
use Rattle.desk_base.specs.Steps.{Step, Refuses, Keeps, Makes, Plain, Drawn}

-- the event with a digest, where its row has one
abbrev pub with_digest : Event → Digest → Event
with_digest (event.AccountAdded account) d = event.AccountAdded (record account { login = d })
with_digest (event.GrantAdded grant) d = event.GrantAdded (record grant { digest = Some d })
with_digest (event.SavedAdded saved) d = event.SavedAdded (record saved { digest = d })
with_digest (event.RunStarted run) d = event.RunStarted (record run { digest = d })
with_digest (event.SessionOpened session) d = event.SessionOpened (record session { digest = d })
with_digest (event.LoginSet a login) d = event.LoginSet a d
with_digest e d = e

-- the step that an outcome is: a draft is completed by the digest of a secret
abbrev pub draft_step : Draft → Step
draft_step draft = Makes (Drawn (with_digest draft.event)) draft.made

abbrev pub step_of : Outcome → Step
step_of (outcome.Change e made) = Makes (Plain e) made
step_of (outcome.Draft draft) = draft_step draft

-- a command stops by its row; no row says that memory runs out
abbrev pub Stops : (Step → Type 0) → Stop → Type 0
Stops Row (stop.Refused r) = Row (Refuses r)
Stops Row (stop.Same made) = Row (Keeps made)
Stops Row stop.Memory = ⊥

-- how far the checks of a command come: they stop, or find what its change is made of
abbrev pub Checks : {X : Type 0} → (Step → Type 0) → (X → Step) → Result X Stop → Type 0
Checks Row makes (Ok x) = Row (makes x)
Checks Row makes (Err s) = Stops Row s

-- THE ANSWER of a desk to a command, where it takes no memory
abbrev pub IsCarriedExactly : (Step → Type 0) → Result Outcome Stop → Type 0
IsCarriedExactly Row result = Checks Row step_of result

-- and where memory may run out, which it does only where the row has an answer
abbrev pub IsCarried : (Step → Type 0) → Result Outcome Stop → Type 0
IsCarried Row (Err stop.Memory) = (step : Step) × Row step
IsCarried Row (Err (stop.Refused r)) = Row (Refuses r)
IsCarried Row (Err (stop.Same made)) = Row (Keeps made)
IsCarried Row (Ok out) = Row (step_of out)

-- THE ANSWER of a desk to a question, by its row and by what answers it; nothing is changed
abbrev pub IsAnswered : {X : Type 0} → (Step → Type 0) → (X → Type 0) → Result X DeskFault → Type 0
IsAnswered Row Tells (Ok told) = Row (Keeps nothing_made) × Tells told
IsAnswered Row Tells (Err (fault.Refused r)) = Row (Refuses r)
IsAnswered Row Tells (Err fault.Memory) = Unit {0}

-- the digest, which no row has, completes the draft
abbrev pub Completes : State → Digest → Draft → Event × Made → Type 0
Completes s d draft (e, made) = (e ≡ with_digest draft.event d) × (made ≡ draft.made) × IsUnused s d

-- a row has the digest
abbrev pub HasClash : State → Digest → Refusal → Type 0
HasClash s d r = (k : Kind) × ((i : ℕ) × (r ≡ TokenClash k i) × HasDigest s d k i)
