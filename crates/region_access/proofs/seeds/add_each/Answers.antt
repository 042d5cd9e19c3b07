use Rattle.std.proofs.Common.{List, Contains, ◌⊎◌, ◌↔◌, subst}
use Rattle.std.specs.Global.{Vec}
use Rattle.host_base.specs.declared.ids.GrantId.{GrantId}
use Rattle.share_graph.specs.declared.facts.Node.{Node}
use Rattle.region_access.specs.declared.tie.Tie.{Tie}
use Rattle.region_access.specs.Seeds.{IsSeedOfGrants, IsSeedOfTies}
use Rattle.region_access.proofs.Ends.{gathers_next, gathers_all}
use Rattle.region_access.proofs.seeds.add_each.Goals as goal

pub loop-nums-init : goal.loop-nums-init
loop-nums-init c = rw c.into_iter-nums-iterator.ensures.into_iter_gives (λ at. (λ h. h, λ h. h))

pub loop-nums-preserved : goal.loop-nums-preserved
loop-nums-preserved c =
    gathers_next c.args.tables.now c.args.nodes.now.items c.loop-nums.nodes.items c.add_nodes.new.nodes.items c.args.entries c.loop-nums.nums-iterator c.next.new.self
    (c.in-Some.field-0-0.now, c.in-Some.nums.now) c.in-Some.ensures.steps
    (λ at. subst (λ (gs : List GrantId). Contains c.add_nodes.new.nodes.items at ↔ (Contains c.loop-nums.nodes.items at ⊎ IsSeedOfGrants c.args.tables.now gs at)) c.as_slice.ensures.value (c.in_ok-add_nodes.ensures at))
    c.loop-nums.invariant

pub returns : goal.returns
returns c = gathers_all c.args.tables.now c.args.nodes.now.items c.loop-nums.nodes.items c.args.entries c.loop-nums.nums-iterator c.in-None.ensures.steps.0 c.loop-nums.invariant
