use Rattle.std.proofs.Common.{List, IsSome, subst, arith}
use Rattle.host_base.specs.declared.ids.GrantId.{GrantId}
use Rattle.share_graph.specs.declared.facts.Node.TheVariants as node
use Rattle.share_graph.specs.Nodes.{node_of}
use Rattle.region_work.proofs.Finding.{finds_more}
use Rattle.region_work.proofs.Grown.{grown_sound, grown_working}
use Rattle.region_work.proofs.solving.grow_region.Goals as goal

pub find_owned-requires-clause-places : goal.find_owned-requires-clause-places
find_owned-requires-clause-places g c at inside =
    let (nodes, grows, fresh) = c.requires.grows in (fresh.places at).1 (grows.within at inside)

pub start_grants-requires-clause-rows : goal.start_grants-requires-clause-rows
start_grants-requires-clause-rows g c num has =
    let (nodes, grows, fresh) = c.requires.grows in
    let (grant, is, inside) = (c.requires.arrivals num).0 has in
    (grant, is, (c.find_owned.ensures.finds.places (node_of num grant)).1 ((fresh.places (node_of num grant)).1 (grows.within (node_of num grant) inside)))

pub work_off-requires-clause-working : goal.work_off-requires-clause-working
work_off-requires-clause-working g c =
    let u = g.V.Probe.tables c.args.probe.now in
    let (nodes, grows, fresh) = c.requires.grows in
    let start = grown_sound u c.requires.coherent c.args.starts.now nodes c.args.table.now.entries grows in
    rw c.start_grants.ensures.same
    (grown_working u c.requires.coherent c.args.starts.now nodes c.args.table.now.entries grows c.args.arrivals.now c.args.waiting.now c.start_grants.new.waiting
    c.requires.arrivals fresh
    (finds_more c.args.waiting.now c.find_owned.new.waiting c.start_grants.new.waiting c.find_owned.ensures.finds c.start_grants.ensures.finds)
    (λ before. c.start_grants.ensures.sound start (c.find_owned.ensures.sound before))
    (λ n grain app fact inside o is. c.start_grants.ensures.finds.kept (node.User n grain.owner) fact (c.find_owned.ensures.owners n grain app fact inside o is))
    c.start_grants.ensures.tried)

pub returns-clause-spent : goal.returns-clause-spent
returns-clause-spent g c fed region =
    let finds = finds_more c.args.waiting.now c.find_owned.new.waiting c.start_grants.new.waiting c.find_owned.ensures.finds c.start_grants.ensures.finds in
    let counted = (rw c.start_grants.ensures.same at c.work_off.ensures.counted) fed (λ num grant is there. region num grant is ((finds.places (node_of num grant)).0 there)) in
    let once = c.start_grants.ensures.once in
    omega arith
