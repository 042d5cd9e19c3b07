use Rattle.std.proofs.Common.{arith}
use Rattle.share_graph.specs.declared.facts.Node.TheVariants as node
use Rattle.share_graph.specs.Nodes.{node_of}
use Rattle.region_work.proofs.Finding.{finds_more}
use Rattle.region_work.proofs.Resumed.{prepared_sound, prepared_working, prepared_region}
use Rattle.region_work.proofs.Words.{bound_in_words}
use Rattle.region_work.proofs.solving.solve_region.Goals as goal

pub find_owned-requires-clause-places : goal.find_owned-requires-clause-places
find_owned-requires-clause-places g c at inside = (c.requires.fresh.places at).1 inside

pub start_grants-requires-clause-rows : goal.start_grants-requires-clause-rows
start_grants-requires-clause-rows g c num has =
    let (grant, is, inside) = (c.requires.grants num).0 has in
    (grant, is, (c.find_owned.ensures.finds.places (node_of num grant)).1 ((c.requires.fresh.places (node_of num grant)).1 inside))

pub work_off-requires-clause-working : goal.work_off-requires-clause-working
work_off-requires-clause-working g c =
    let u = g.V.Probe.tables c.args.probe.now in
    rw c.start_grants.ensures.same
    (prepared_working u c.requires.coherent c.args.nodes.now c.args.grants.now c.args.table.now.entries c.args.waiting.now c.start_grants.new.waiting
    c.requires.grants c.requires.prepared c.requires.fresh
    (finds_more c.args.waiting.now c.find_owned.new.waiting c.start_grants.new.waiting c.find_owned.ensures.finds c.start_grants.ensures.finds)
    (λ before. c.start_grants.ensures.sound (prepared_sound u c.requires.coherent c.args.nodes.now c.args.table.now.entries c.requires.prepared) (c.find_owned.ensures.sound before))
    (λ n grain app fact inside o is. c.start_grants.ensures.finds.kept (node.User n grain.owner) fact (c.find_owned.ensures.owners n grain app fact inside o is))
    c.start_grants.ensures.tried)

pub returns-clause-spent : goal.returns-clause-spent
returns-clause-spent g c =
    let u = g.V.Probe.tables c.args.probe.now in
    let region = prepared_region u c.requires.coherent c.args.nodes.now c.args.grants.now c.args.table.now.entries c.args.waiting.now c.start_grants.new.waiting
    c.requires.grants c.requires.prepared c.requires.fresh
    (finds_more c.args.waiting.now c.find_owned.new.waiting c.start_grants.new.waiting c.find_owned.ensures.finds c.start_grants.ensures.finds)
    (λ before. c.start_grants.ensures.sound (prepared_sound u c.requires.coherent c.args.nodes.now c.args.table.now.entries c.requires.prepared) (c.find_owned.ensures.sound before))
    (λ n grain app fact inside o is. c.start_grants.ensures.finds.kept (node.User n grain.owner) fact (c.find_owned.ensures.owners n grain app fact inside o is))
    c.start_grants.ensures.tried in
    let counted = (rw c.start_grants.ensures.same at c.work_off.ensures.counted) c.args.grants.now region in
    let started = c.start_grants.ensures.counted in
    omega arith

pub returns-clause-bound : goal.returns-clause-bound
returns-clause-bound g c =
    let u = g.V.Probe.tables c.args.probe.now in
    let spent = returns-clause-spent g c in
    let most = bound_in_words u c.args.grants.now in
    omega arith
