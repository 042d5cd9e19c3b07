-- What was found, and what of it waits to be passed on.
use Rattle.std.specs.Prelude.{◌≡◌, ◌⊎◌, ◌↔◌, ◌+◌, ◌*◌, ◌≤◌, List, length, Contains, IsSome}
use Rattle.share_graph.specs.declared.facts.Fact.{Fact}
use Rattle.share_graph.specs.declared.facts.Node.{Node}
use Rattle.least_access.specs.declared.held.Held.{Held}
use Rattle.least_access.specs.Held.{IsIn}
use Rattle.least_access.specs.Solved.{Table, held_at, HeldAt}
use Rattle.least_access.specs.Rounds.{total_room}
use Rattle.region_work.specs.declared.claim.Claim.{Claim}

-- what was found, each node with a place, and what of it waits
pub record Work : Type 0 where
  pub found : Table
  pub queue : List Claim

abbrev pub claim : Node → Held → Claim
claim at held = record { node = at; held = held }

-- a fact waits at a node
abbrev pub Waits : List Claim → Node → Fact → Type 0
Waits queue at fact = (c : Claim) × Contains queue c × (c.node ≡ at) × IsIn c.held fact

-- All that is claimed was found.
pub record IsFoundIn (found : Table) (c : Claim) : Type 0 where
  pub place : IsSome (held_at found c.node)
  pub facts : (fact : Fact) → IsIn c.held fact → HeldAt found c.node fact

-- More was found, at the same places, and all that is new waits.
pub record Finds (old new : Work) : Type 0 where
  pub places : (at : Node) → IsSome (held_at new.found at) ↔ IsSome (held_at old.found at)
  pub kept : (at : Node) (fact : Fact) → HeldAt old.found at fact → HeldAt new.found at fact
  pub waits : (c : Claim) → Contains old.queue c → Contains new.queue c
  pub listed : (at : Node) (fact : Fact) → HeldAt new.found at fact → HeldAt old.found at fact ⊎ Waits new.queue at fact
  pub found : (c : Claim) → Contains new.queue c → Contains old.queue c ⊎ IsFoundIn new.found c
  pub less : 2 * total_room new.found + length new.queue ≤ 2 * total_room old.found + length old.queue
