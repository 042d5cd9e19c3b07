use Rattle.std.proofs.Common.{sym, subst}
use Rattle.std.specs.Prelude.{IsSome}
use Rattle.share_graph.specs.declared.facts.Node.{Node}
use Rattle.share_graph.specs.declared.state.Tables.{Tables}
use Rattle.share_graph.specs.Rows.{IsGrant}
use Rattle.least_access.specs.Solved.{held_at, HeldAt}
use Rattle.region_work.proofs.Finding.{sound_found}
use Rattle.region_work.proofs.trying.try_grant.Goals as goal

pub node-requires : goal.node-requires
node-requires g c =
    let (grant, is, place) = c.requires.row in
    (grant, subst (λ (t : Tables). IsGrant t c.args.num grant) (sym c.pass-passed.ensures.same) is)

pub find-requires : goal.find-requires
find-requires g c =
    let (grant, is, place) = c.requires.row in
    let there = subst (λ (t : Tables). IsGrant t c.args.num grant) (sym c.pass-passed.ensures.same) is in
    subst (λ (n : Node). IsSome (held_at c.args.waiting.now.found n)) (sym (c.node.ensures grant there)) place

pub returns-clause-sound : goal.returns-clause-sound
returns-clause-sound g c sound before =
    let (grant, is, place) = c.requires.row in
    let there = subst (λ (t : Tables). IsGrant t c.args.num grant) (sym c.pass-passed.ensures.same) is in
    sound_found (g.V.Probe.tables c.args.probe.now) c.args.table.now.entries c.args.waiting.now.found c.find.new.self.found c.args.num grant c.node.result
    c.pass-passed.result (c.node.ensures grant there) (λ fact has. (c.pass-passed.ensures.answer grant fact is).0 has) c.find.ensures.only sound before

pub returns-clause-tried : goal.returns-clause-tried
returns-clause-tried g c grant fact is f =
    let there = subst (λ (t : Tables). IsGrant t c.args.num grant) (sym c.pass-passed.ensures.same) is in
    subst (λ (n : Node). HeldAt c.find.new.self.found n fact) (c.node.ensures grant there)
    (c.find.ensures.there fact ((c.pass-passed.ensures.answer grant fact is).1 f))
