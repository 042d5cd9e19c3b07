use Rattle.std.proofs.Common.{◌≡◌, List, length, sym, ◌∙◌, ap, subst, arith}
use Rattle.host_base.specs.declared.ids.GrantId.{GrantId}
use Rattle.share_graph.specs.declared.facts.Node.{Node}
use Rattle.share_graph.specs.Nodes.{node_of}
use Rattle.region_work.specs.Prepared.{HasGrants, IsPrepared, IsToGrow}
use Rattle.region_work.specs.Working.{owed_by}
use Rattle.live_access.specs.contracts.solution.Solution.{the_view}
use Rattle.live_access.specs.Kept.{Kept}
use Rattle.live_access.proofs.Settled.{CanSettle, can_settle, first_grants, all_grants}
use Rattle.live_access.proofs.solution.Solution.settle.Goals as goal

pub grow_region-requires-clause-coherent : goal.grow_region-requires-clause-coherent
grow_region-requires-clause-coherent g c = (can_settle c.args.self.now c.args.region.now (g.V.Probe.tables c.args.probe.now) c.requires).coherent

pub grow_region-requires-clause-index : goal.grow_region-requires-clause-index
grow_region-requires-clause-index g c =
    let u = g.V.Probe.tables c.args.probe.now in
    let ready = subst (λ (kept : Kept). CanSettle u kept c.args.region.now) (sym (ap the_view c.self-inside.view_is ∙ c.self.view_is)) (can_settle c.args.self.now c.args.region.now u c.requires) in
    ready.indexes.edges

pub grow_region-requires-clause-arrivals : goal.grow_region-requires-clause-arrivals
grow_region-requires-clause-arrivals g c =
    let u = g.V.Probe.tables c.args.probe.now in
    let ready = can_settle c.args.self.now c.args.region.now u c.requires in
    let grants = first_grants u c.args.self.now c.args.region.now ready c.if-region.true in
    subst (λ (nodes : List Node). HasGrants u nodes c.as_slice-grants.result.now) (sym c.as_slice.ensures.value)
    (subst (λ (gs : List GrantId). HasGrants u c.args.region.now.seeds.items gs) (sym c.as_slice-grants.ensures.value) grants)

pub grow_region-requires-clause-grows : goal.grow_region-requires-clause-grows
grow_region-requires-clause-grows g c =
    let u = g.V.Probe.tables c.args.probe.now in
    let ready = subst (λ (kept : Kept). CanSettle u kept c.args.region.now) (sym (ap the_view c.self-inside.view_is ∙ c.self.view_is)) (can_settle c.args.self.now c.args.region.now u c.requires) in
    let nodes = c.args.region.now.room.nodes.items in (
      nodes,
      subst (λ (seeds : List Node). IsToGrow u seeds nodes c.self-inside.inside.0.0.table.entries) (sym c.as_slice.ensures.value) (ready.to_grow c.if-region.true),
      ready.fresh,
    )

pub returns-then-region-clause-solved : goal.returns-then-region-clause-solved
returns-then-region-clause-solved g c =
    let u = g.V.Probe.tables c.args.probe.now in
    let ready = subst (λ (kept : Kept). CanSettle u kept c.args.region.now) (sym (ap the_view c.self-inside.view_is ∙ c.self.view_is)) (can_settle c.args.self.now c.args.region.now u c.requires) in
    record { solution = c.grow_region.ensures.solution; indexes = ready.indexes }

pub returns-then-region-clause-grown : goal.returns-then-region-clause-grown
returns-then-region-clause-grown g c grows fed has =
    let u = g.V.Probe.tables c.args.probe.now in
    let ready = can_settle c.args.self.now c.args.region.now u c.requires in
    let same = ap the_view c.self-inside.view_is ∙ c.self.view_is in
    let spent = c.grow_region.ensures.spent fed (λ num grant is there. (has num).1 (grant, is, (ready.fresh.places (node_of num grant)).0 there)) in
    let grants : length c.as_slice-grants.result.now ≡ length c.args.region.now.grants.items = ap length c.as_slice-grants.ensures.value in
    let owes = ap (λ (kept : Kept). owed_by u kept.table fed) same in
    omega arith

pub solve_region-requires-clause-coherent : goal.solve_region-requires-clause-coherent
solve_region-requires-clause-coherent g c = (can_settle c.args.self.now c.args.region.now (g.V.Probe.tables c.args.probe.now) c.requires).coherent

pub solve_region-requires-clause-index : goal.solve_region-requires-clause-index
solve_region-requires-clause-index g c =
    let u = g.V.Probe.tables c.args.probe.now in
    let ready = subst (λ (kept : Kept). CanSettle u kept c.args.region.now) (sym (ap the_view c.self-inside.view_is ∙ c.self.view_is)) (can_settle c.args.self.now c.args.region.now u c.requires) in
    ready.indexes.edges

pub solve_region-requires-clause-grants : goal.solve_region-requires-clause-grants
solve_region-requires-clause-grants g c =
    let u = g.V.Probe.tables c.args.probe.now in
    let ready = can_settle c.args.self.now c.args.region.now u c.requires in
    let grants = all_grants u c.args.self.now c.args.region.now ready c.if-region.false in
    subst (λ (nodes : List Node). HasGrants u nodes c.as_slice-grants.result.now) (sym c.as_slice-else-region.ensures.value)
    (subst (λ (gs : List GrantId). HasGrants u c.args.region.now.room.nodes.items gs) (sym c.as_slice-grants.ensures.value) grants)

pub solve_region-requires-clause-prepared : goal.solve_region-requires-clause-prepared
solve_region-requires-clause-prepared g c =
    let u = g.V.Probe.tables c.args.probe.now in
    let ready = subst (λ (kept : Kept). CanSettle u kept c.args.region.now) (sym (ap the_view c.self-inside.view_is ∙ c.self.view_is)) (can_settle c.args.self.now c.args.region.now u c.requires) in
    subst (λ (nodes : List Node). IsPrepared u nodes c.self-inside.inside.0.0.table.entries) (sym c.as_slice-else-region.ensures.value) (ready.prepared c.if-region.false)

pub returns-else-region-clause-solved : goal.returns-else-region-clause-solved
returns-else-region-clause-solved g c =
    let u = g.V.Probe.tables c.args.probe.now in
    let ready = subst (λ (kept : Kept). CanSettle u kept c.args.region.now) (sym (ap the_view c.self-inside.view_is ∙ c.self.view_is)) (can_settle c.args.self.now c.args.region.now u c.requires) in
    record { solution = c.solve_region.ensures.solution; indexes = ready.indexes }
