-- What the changes of a command owe: each fits the state, they want a digest all or none, and a run's start wants one.
use Rattle.std.specs.Prelude.{Bool, true, false}
use Rattle.desk_base.specs.Terms.{Digest, Event, EventFits, IsUnused, Made, State}
use Rattle.share_graph.specs.declared.event.Event.TheVariants as event
use Rattle.desk_base.specs.Steps.{Step, Makes, Change, Plain, Drawn}

-- the event starts no run
abbrev pub StartsNoRun : Event → Type 0
StartsNoRun (event.RunStarted run) = ⊥
StartsNoRun e = Unit {0}

-- the change fits; one that wants a digest, as it has to where the command draws a secret, with each digest that no row has;
-- and any other starts no run
abbrev pub ChangeFits : State → Bool → Change → Type 0
ChangeFits s false (Plain e) = EventFits s e × StartsNoRun e
ChangeFits s true (Drawn f) = (d : Digest) → IsUnused s d → EventFits s (f d)
ChangeFits s true (Plain e) = ⊥
ChangeFits s false (Drawn f) = ⊥

-- each change that a command's row makes fits
pub record RowFits (s : State) (draws : Bool) (Row : Step → Type 0) : Type 0 where
  pub fits : (change : Change) (made : Made) → Row (Makes change made) → ChangeFits s draws change
