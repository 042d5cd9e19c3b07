use Rattle.std.proofs.Common.{◌<◌, ◌≤◌, ◌++◌, [], List, Contains, length, ◌∙◌, ap, subst, arith}
use Rattle.host_base.specs.declared.ids.GrantId.{GrantId}
use Rattle.region_work.specs.Fed.{fed_in}
use Rattle.region_access.proofs.Visited.{at_any}
use Rattle.access_report.specs.Resting.{AreFedBy}
use Rattle.access_report.proofs.Backwards.{arriving_rows, back_few, back_next, back_none, is_rest}
use Rattle.access_report.proofs.resting.rest_of.Goals as goal

pub loop-next-init : goal.loop-next-init
loop-next-init c =
    back_none c.args.tables.now (fed_in c.args.arrivals.now.entries) c.args.node c.new-nodes.result.items c.visit.new.nodes.items c.visit.new.places.entries c.new-grants.result.items
    c.new-nodes.ensures.items c.new-grants.ensures.items c.in_ok-visit.ensures

pub visit_feeders-requires-clause-rows : goal.visit_feeders-requires-clause-rows
visit_feeders-requires-clause-rows c num arrives =
    let (grant, is, goes) =
    arriving_rows c.args.tables.now (fed_in c.args.arrivals.now.entries) c.requires c.index.result.now num (subst (λ (gs : List GrantId). Contains gs num) c.fed_by-arriving.ensures arrives) in
    (grant, is)

pub loop-next-smaller : goal.loop-next-smaller
loop-next-smaller c =
    let few = back_few c.args.tables.now (fed_in c.args.arrivals.now.entries) c.args.node c.loop-next.nodes.items c.loop-next.places.entries c.loop-next.grants.items c.loop-next.next c.loop-next.invariant in
    let within = c.loop-next-test.true in
    let len = c.len.ensures in
    omega (arith, c.loop-next.nodes.ok.0)

pub loop-next-preserved : goal.loop-next-preserved
loop-next-preserved c =
    let t = c.args.tables.now in
    let into = fed_in c.args.arrivals.now.entries in
    let nodes = c.loop-next.nodes.items in
    let here = c.index.result.now in
    let within : c.loop-next.next < length nodes = omega (arith, c.loop-next.nodes.ok.0) in
    let (feeding, fed, visits) = c.in_ok-visit_feeders.ensures in
    back_next t into c.requires c.args.node nodes c.visit_feeders.new.nodes.items feeding c.loop-next.places.entries c.visit_feeders.new.places.entries c.loop-next.grants.items
    c.extend_from_slice.new.self.items c.loop-next.next here within (at_any nodes c.loop-next.next here within c.index.ensures) c.loop-next.invariant
    (subst (λ (gs : List GrantId). AreFedBy t [] gs feeding) c.fed_by-arriving.ensures fed) visits
    (c.in_ok-extend_from_slice.ensures.items ∙ ap (λ (gs : List GrantId). c.loop-next.grants.items ++ gs) c.fed_by-arriving.ensures)

pub returns : goal.returns
returns c =
    let end : length c.loop-next.nodes.items ≤ c.loop-next.next = omega (arith, c.loop-next.nodes.ok.0) in
    is_rest c.args.tables.now (fed_in c.args.arrivals.now.entries) c.requires c.args.node c.loop-next.nodes.items c.loop-next.places.entries c.loop-next.grants.items c.loop-next.next end
    c.loop-next.invariant
