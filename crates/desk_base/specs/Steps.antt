-- What the machine makes of a command. A command is defined by its row: whose call it is, the checks in their order, when things are
-- as it asks, and what it adds; so it is a relation between a state, a caller, arguments and the step that the checks come to.
use Rattle.std.specs.Prelude.{◌≡◌}
use Rattle.desk_base.specs.Terms.{Denial, Digest, Event, Made, Refusal}
use Rattle.share_graph.specs.declared.refusal.Refusal.TheVariants.{Denied}

-- What a command adds: an event, or one that is to have the digest of a secret, which is drawn later.
pub data Change : Type 0 where
  Plain : Event → Change
  Drawn : (Digest → Event) → Change

-- What the checks of a command come to: it is refused, or things are as it asks, or it changes them. The reply shows what was made.
pub data Step : Type 0 where
  Refuses : Refusal → Step
  Keeps : Made → Step
  Makes : Change → Made → Step

-- the refusal by a denial
abbrev pub denies : Denial → Step
denies reason = Refuses (Denied reason)

-- a step that is one of these refusals
abbrev pub refusing : (Refusal → Type 0) → Step → Type 0
refusing T step = (r : Refusal) × (step ≡ Refuses r) × T r
