-- The order of nodes tells them apart.
use Rattle.std.proofs.Common.{◌≡◌, ◌≢◌, ◌⊎◌, ℕ, Bool, true, false, arith, refl, sym, ◌∙◌, ap, inl, inr}
use Rattle.std.proofs.lemmas.Bool.{false≢true}
use Rattle.std.proofs.lemmas.Cmp.{tied_itself}
use Rattle.std.specs.Ordering.{is_eq, nat_cmp, ordering_then}
use Rattle.std.proofs.lemmas.Bool.Decides.{nat_tests}
use Rattle.share_graph.specs.declared.facts.Node.{Node}
use Rattle.share_graph.specs.declared.facts.Node.TheVariants as node
use Rattle.share_graph.specs.contracts.facts.NodeOrd.TheImpl.{ghosts}
use Rattle.share_graph.specs.NodeOrder.{node_total}

two_numbers : (a b c d : ℕ) → is_eq (ordering_then (nat_cmp a b) (nat_cmp c d)) ≡ true → (a ≡ b) × (c ≡ d)
two_numbers a b c d h = (grind (arith, nat_tests), grind (arith, nat_tests))

-- nodes that the order can't tell apart are one
pub same_node : (a b : Node) → is_eq (ghosts.cmp a b) ≡ true → a ≡ b
same_node (node.User n a) (node.User m b) h = let (x, y) = two_numbers a.0 b.0 n.0 m.0 h in rw (x, y) refl
same_node (node.User n a) (node.Grant g) h = cc h
same_node (node.Grant g) (node.User n a) h = cc h
same_node (node.Grant g) (node.Grant k) h = let x = (two_numbers g.0 k.0 0 0 h).0 in rw x refl

-- two nodes are one, or they differ
pub same_or_other : (a b : Node) → (a ≡ b) ⊎ (a ≢ b)
same_or_other a b = by_test (is_eq (ghosts.cmp a b)) refl
  where
    by_test : (test : Bool) → is_eq (ghosts.cmp a b) ≡ test → (a ≡ b) ⊎ (a ≢ b)
    by_test true is = inl (same_node a b is)
    by_test false is = inr (λ same. false≢true (sym is ∙ ap (λ (n : Node). is_eq (ghosts.cmp a n)) (sym same) ∙ ap is_eq (tied_itself node_total a)))
