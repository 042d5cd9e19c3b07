use Rattle.std.proofs.Common.{◌⊎◌, ◌↔◌, take, Contains}
use Rattle.share_graph.specs.declared.facts.Node.{Node}
use Rattle.region_access.specs.Adding.{IsNamed}
use Rattle.region_access.proofs.fed_grant.add_holders.Given as goal

abbrev pub invariant-loop-need : goal.invariant-loop-need
invariant-loop-need l = (at : Node) → Contains l.nodes.items at ↔ (Contains l.fn.nodes.items at ⊎ IsNamed (take l.need-index l.needs) at)
