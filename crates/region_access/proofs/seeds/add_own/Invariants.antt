use Rattle.std.proofs.Common.{ℕ}
use Rattle.share_graph.specs.declared.rows.Grain.{Grain}
use Rattle.share_graph.specs.declared.facts.Node.TheVariants as node
use Rattle.region_access.proofs.Picked.{PickedBelow}
use Rattle.region_access.proofs.seeds.add_own.Given as goal

abbrev pub invariant-loop-place : goal.invariant-loop-place
invariant-loop-place l = PickedBelow l.tables.grains (λ (n : ℕ). λ (grain : Grain). node.User (record { 0 = n }) l.account) l.fn.nodes.items l.nodes.items l.place
