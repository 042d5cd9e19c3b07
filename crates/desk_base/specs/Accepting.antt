-- WHAT THE MACHINE ACCEPTS, once for all commands: by the row of the command, the number of entries so far, and the digest of the
-- secret that was drawn, if one was.
use Rattle.std.specs.Prelude.{◌≡◌, ◌⊎◌, ◌<◌, ◌≤◌, ℕ, Option, Some, None}
use Rattle.desk_base.specs.Terms.{Digest, Event, HasDigest, IsUnused, Kind, Made, Refusal, State}
use Rattle.share_graph.specs.declared.fault.Kind.TheVariants as kind
use Rattle.share_graph.specs.declared.refusal.Refusal.TheVariants.{TooMany, TokenClash}
use Rattle.desk_base.specs.Limits.{most_entries}
use Rattle.desk_base.specs.Steps.{Step, Refuses, Keeps, Makes, Change, Plain, Drawn}

-- the refusal where there are as many entries as there may be
abbrev pub full : Refusal
full = TooMany kind.Entry most_entries

-- some change is made
abbrev pub Changes : (Step → Type 0) → Type 0
Changes Row = (change : Change) × ((made : Made) × Row (Makes change made))

-- READY, at n entries: what the checks come to, and then the limit of entries. It has no digest.
abbrev pub Ready : ℕ → (Step → Type 0) → Step → Type 0
Ready n Row (Refuses r) = Row (Refuses r) ⊎ ((r ≡ full) × (most_entries ≤ n) × Changes Row)
Ready n Row (Keeps made) = Row (Keeps made)
Ready n Row (Makes change made) = Row (Makes change made) × (n < most_entries)

-- a change that wants a secret is ready
abbrev pub WantsSecret : ℕ → (Step → Type 0) → Type 0
WantsSecret n Row = (f : Digest → Event) × ((made : Made) × Ready n Row (Makes (Drawn f) made))

-- ACCEPT: a change that is ready; one that wants a secret is completed by a digest that no row has
abbrev pub Accepts : State → ℕ → Option Digest → (Step → Type 0) → Event → Made → Type 0
Accepts s n None Row e made = Ready n Row (Makes (Plain e) made)
Accepts s n (Some d) Row e made = (f : Digest → Event) × Ready n Row (Makes (Drawn f) made) × (e ≡ f d) × IsUnused s d

-- a row has the digest of the drawn secret
abbrev pub ClashesAt : State → ℕ → Digest → (Step → Type 0) → Refusal → Type 0
ClashesAt s n d Row r = (k : Kind) × ((i : ℕ) × (r ≡ TokenClash k i) × HasDigest s d k i × WantsSecret n Row)

-- the refusals of an order: those that are ready, and the clash of a drawn secret
abbrev pub IsRefusal : State → ℕ → Option Digest → (Step → Type 0) → Refusal → Type 0
IsRefusal s n None Row r = Ready n Row (Refuses r)
IsRefusal s n (Some d) Row r = ClashesAt s n d Row r
