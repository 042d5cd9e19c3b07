-- The tables after a grant was revoked, and the law of revoking.
use Rattle.std.specs.Prelude.{◌↔◌}
use Rattle.host_base.specs.declared.ids.GrantId.{GrantId}
use Rattle.share_graph.specs.declared.facts.Fact.{Fact}
use Rattle.share_graph.specs.declared.facts.Node.{Node}
use Rattle.share_graph.specs.declared.state.Tables.{Tables}
use Rattle.share_graph.specs.Changing.{change_row}
use Rattle.share_graph.specs.Setting.{revoked}
use Rattle.share_graph.specs.Derivation.{Holds, HoldsWithout}

-- the grant's row is marked as revoked
abbrev pub revoke_in : Tables → GrantId → Tables
revoke_in t g = record t { grants = change_row revoked t.grants g.0 }

-- THE LAW OF REVOKING. A fact holds afterwards exactly where it had a derivation before that doesn't use the grant.
abbrev pub TakesExactly : Tables → GrantId → Tables → Type 0
TakesExactly t g after = (at : Node) (fact : Fact) → Holds after at fact ↔ HoldsWithout t g at fact
