-- The order of nodes.
use Rattle.std.specs.Prelude.{◌≡◌, ℕ}
use Rattle.std.specs.Cmp.{IsTotalOrder, on_total, then_total, nat_cmp_total}
use Rattle.std.specs.Ordering.{nat_cmp, on, then_cmp, is_eq}
use Rattle.std.specs.declared.cmp.Ordering.{Ordering}
use Rattle.std.proofs.Common.{arith, refl}
use Rattle.std.proofs.lemmas.Bool.Decides.{nat_tests}
use Rattle.share_graph.specs.contracts.facts.NodePartialEq.TheImpl as node_eq
use Rattle.share_graph.specs.declared.facts.Node.{Node}
use Rattle.share_graph.specs.declared.facts.Node.TheVariants as node

-- an account's nodes stand together, by their grains, and the grants come after all of them
abbrev pub key_of : Node → ℕ × (ℕ × ℕ)
key_of (node.User n a) = (0, (a.0, n.0))
key_of (node.Grant g) = (1, (g.0, 0))

-- a node stands before another by its key
abbrev pub node_cmp : Node → Node → Ordering
node_cmp =
    on key_of (then_cmp (on (λ k. k.0) nat_cmp) (then_cmp (on (λ k. k.1.0) nat_cmp) (on (λ k. k.1.1) nat_cmp)))

pub node_total : IsTotalOrder node_cmp
node_total =
    on_total key_of (then_total (on_total (λ k. k.0) nat_cmp_total)
    (then_total (on_total (λ k. k.1.0) nat_cmp_total) (on_total (λ k. k.1.1) nat_cmp_total)))

-- nodes are equal where the order doesn't tell them apart
pub node_ties : (a b : Node) → node_eq.ghosts.eq a b ≡ is_eq (node_cmp a b)
node_ties (node.User n a) (node.User m b) = grind (arith, nat_tests)
node_ties (node.User n a) (node.Grant g) = refl
node_ties (node.Grant g) (node.User n a) = refl
node_ties (node.Grant g) (node.Grant k) = grind (arith, nat_tests)
