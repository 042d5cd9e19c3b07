-- What a revocation would take.
use Rattle.std.specs.Prelude.{◌≡◌, ◌↔◌, ℕ, true, List, Contains, AllPairs}
use Rattle.std.specs.Ordering.{nat_cmp, on, then_cmp}
use Rattle.std.specs.declared.cmp.Ordering.{Ordering}
use Rattle.std.specs.declared.cmp.Ordering.TheVariants.{Less}
use Rattle.host_base.specs.declared.ids.GrantId.{GrantId}
use Rattle.perm_roles.specs.PermSet.{Has}
use Rattle.share_graph.specs.declared.facts.Fact.{Fact}
use Rattle.share_graph.specs.declared.facts.Fact.TheVariants.{Open, Perm}
use Rattle.share_graph.specs.declared.facts.Node.{Node}
use Rattle.share_graph.specs.declared.facts.Node.TheVariants as node
use Rattle.share_graph.specs.declared.state.Tables.{Tables}
use Rattle.share_graph.specs.Derivation.{Holds}
use Rattle.share_graph.specs.Revoking.{revoke_in}
use Rattle.access_report.specs.declared.loss.Loss.{Loss}

-- the node holds the fact, and wouldn't after the grant was revoked
abbrev pub IsLost : Tables → GrantId → Node → Fact → Type 0
IsLost t g at fact = Holds t at fact × (Holds (revoke_in t g) at fact → ⊥)

-- The loss is of what its node would lose, exactly, and it is something.
pub record IsLossOf (t : Tables) (g : GrantId) (loss : Loss) : Type 0 where
  pub entry : loss.entry ≡ true ↔ IsLost t g loss.node Open
  pub exact : (p : ℕ) → Has loss.perms p ↔ IsLost t g loss.node (Perm p)
  pub something : (fact : Fact) × IsLost t g loss.node fact

-- users by their grains, and then by their accounts, and the grants after all of them
abbrev pub report_key : Node → ℕ × (ℕ × ℕ)
report_key (node.User n a) = (0, (n.0, a.0))
report_key (node.Grant g) = (1, (g.0, 0))

abbrev pub report_cmp : Node → Node → Ordering
report_cmp = on report_key (then_cmp (on (λ k. k.0) nat_cmp) (then_cmp (on (λ k. k.1.0) nat_cmp) (on (λ k. k.1.1) nat_cmp)))

-- WHAT A REVOCATION WOULD TAKE: exactly the facts that hold and wouldn't after it, in the order of the report.
pub record AreLosses (t : Tables) (g : GrantId) (losses : List Loss) : Type 0 where
  pub each : (loss : Loss) → Contains losses loss → IsLossOf t g loss
  pub all : (at : Node) (fact : Fact) → IsLost t g at fact → (loss : Loss) × Contains losses loss × (loss.node ≡ at)
  pub ascend : AllPairs (λ (a : Loss) (b : Loss). report_cmp a.node b.node ≡ Less) losses
