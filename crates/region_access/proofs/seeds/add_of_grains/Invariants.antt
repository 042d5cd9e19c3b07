use Rattle.std.proofs.Common.{◌⊎◌, ◌↔◌, take, Contains}
use Rattle.share_graph.specs.declared.facts.Node.{Node}
use Rattle.region_access.specs.Seeds.{IsSeedOfGrains}
use Rattle.region_access.proofs.seeds.add_of_grains.Given as goal

abbrev pub invariant-loop-num : goal.invariant-loop-num
invariant-loop-num l = (at : Node) → Contains l.nodes.items at ↔ (Contains l.fn.nodes.items at ⊎ IsSeedOfGrains l.tables (take l.num-index l.nums) at)
