-- A node gains facts.
use Rattle.std.specs.Prelude.{◌≡◌, ◌⊎◌, ◌↔◌, ◌≢◌, ◌+◌, ◌≤◌, true, false, Some}
use Rattle.share_graph.specs.declared.facts.Fact.{Fact}
use Rattle.share_graph.specs.declared.facts.Node.{Node}
use Rattle.share_graph.specs.declared.grants.Need.{Need}
use Rattle.least_access.specs.Held.{IsIn, room}
use Rattle.least_access.specs.Solved.{Table, held_at}
use Rattle.region_work.specs.declared.gain.Gain.{Gain}
use Rattle.region_work.specs.Owed.{meets, holder_of}

-- the need names the node, and is met since the node gained the facts
pub record Becomes (gain : Gain) (q : Need) : Type 0 where
  pub named : holder_of q ≡ Some gain.node
  pub before : meets gain.before q ≡ false
  pub after : meets gain.after q ≡ true

-- the second table is the first, but that the node gained the facts, one of them new
pub record Moves (gain : Gain) (old new : Table) : Type 0 where
  pub had : held_at old gain.node ≡ Some gain.before
  pub has : held_at new gain.node ≡ Some gain.after
  pub others : (at : Node) → at ≢ gain.node → held_at new at ≡ held_at old at
  pub members : (fact : Fact) → IsIn gain.after fact ↔ (IsIn gain.before fact ⊎ IsIn gain.gained fact)
  pub less : room gain.after + 1 ≤ room gain.before
