-- What a revocation takes away, and what it leaves.
use Rattle.std.specs.Prelude.{◌≡◌, ◌<◌}
use Rattle.host_base.specs.declared.ids.GrantId.{GrantId}
use Rattle.share_graph.specs.declared.event.Event.{Event}
use Rattle.share_graph.specs.declared.event.Event.TheVariants as event
use Rattle.share_graph.specs.declared.facts.Fact.{Fact}
use Rattle.share_graph.specs.declared.facts.Fact.TheVariants as fact
use Rattle.share_graph.specs.declared.facts.Node.{Node}
use Rattle.share_graph.specs.declared.state.Tables.{Tables}
use Rattle.share_graph.specs.Derivation.{Holds, Derivation, Uses}
use Rattle.share_graph.specs.Revoking.{TakesExactly}

-- THE LAW OF REVOKING for an event: where it revokes a grant, a fact holds afterwards exactly where it had a derivation before
-- that doesn't use the grant.
abbrev pub RevokesExactly : Tables → Event → Tables → Type 0
RevokesExactly t e u = (g : GrantId) → e ≡ event.GrantRevoked g → 0 < g.0 → TakesExactly t g u

-- Where every derivation of entry used the revoked grant, there is no entry any more.
abbrev pub ShutsOut : Tables → Event → Tables → Type 0
ShutsOut t e u = (g : GrantId) → e ≡ event.GrantRevoked g → 0 < g.0 → (at : Node) → ((d : Derivation t at fact.Open) → Uses d g) → Holds u at fact.Open → ⊥

-- What a derivation gives that doesn't use the revoked grant is held on.
abbrev pub LeavesTheRest : Tables → Event → Tables → Type 0
LeavesTheRest t e u = (g : GrantId) → e ≡ event.GrantRevoked g → 0 < g.0 → (at : Node) (f : Fact) (d : Derivation t at f) → ¬ Uses d g → Holds u at f
