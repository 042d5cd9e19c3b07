-- What a table has at a node.
use Rattle.std.proofs.Common.{◌≡◌, Option, Some, None, IsSome, IsSomeAnd, refl, sym, subst}
use Rattle.share_graph.specs.declared.facts.Fact.{Fact}
use Rattle.share_graph.specs.declared.facts.Node.{Node}
use Rattle.least_access.specs.declared.held.Held.{Held}
use Rattle.least_access.specs.Held.{IsIn}
use Rattle.least_access.specs.Solved.{Table, held_at, HeldAt}

-- what a table with this at the node has there
pub held_there : (table : Table) (at : Node) (held : Held) (fact : Fact) → held_at table at ≡ Some held → HeldAt table at fact → IsIn held fact
held_there table at held fact is h = subst (λ (o : Option Held). IsSomeAnd o (λ x. IsIn x fact)) is h

pub held_here : (table : Table) (at : Node) (held : Held) (fact : Fact) → held_at table at ≡ Some held → IsIn held fact → HeldAt table at fact
held_here table at held fact is h = subst (λ (o : Option Held). IsSomeAnd o (λ x. IsIn x fact)) (sym is) h

-- a table that has the same at a node has the same facts there
pub held_same : (old new : Table) (at : Node) (fact : Fact) → held_at new at ≡ held_at old at → HeldAt new at fact → HeldAt old at fact
held_same old new at fact is h = subst (λ (o : Option Held). IsSomeAnd o (λ x. IsIn x fact)) is h

-- the value that is there
pub value_of : (o : Option Held) → IsSome o → (held : Held) × (o ≡ Some held)
value_of (Some held) there = (held, refl)
value_of None there = cc there
