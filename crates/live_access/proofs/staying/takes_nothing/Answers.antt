use Rattle.std.proofs.Common.{subst, sym, ◌∙◌}
use Rattle.share_graph.specs.declared.facts.Node.{Node}
use Rattle.share_graph.specs.declared.state.Tables.{Tables}
use Rattle.share_graph.specs.Rows.{IsGrant}
use Rattle.live_access.specs.Staying.{IsGivenOtherwise}
use Rattle.live_access.proofs.Stays.{some_of}
use Rattle.live_access.proofs.staying.takes_nothing.Goals as goal

pub node-node-requires : goal.node-node-requires
node-node-requires g c =
    let (grant, is) = c.requires.row in (grant, subst (λ (t : Tables). IsGrant t c.args.num grant) (sym c.pass-passed.ensures.same) is)

pub returns-clause-nothing : goal.returns-clause-nothing
returns-clause-nothing g c holds =
    let t = g.V.Probe.tables c.args.probe.now in
    let (grant, is) = c.requires.row in
    let (nodes, empty, region) = c.requires.region in
    let (from, source) = some_of c.source.result c.if-is_none.ensures in
    let given = rw c.pass-passed.ensures.same at c.is_given_otherwise.ensures.given in
    let node = c.node-node.ensures grant (subst (λ (u : Tables). IsGrant u c.args.num grant) (sym c.pass-passed.ensures.same) is) in
    record {
      grant = grant;
      from = from;
      is_row = is;
      source = sym (c.source.ensures grant is) ∙ source;
      nodes = nodes;
      region = region grant is;
      given = λ fact follows. subst (λ (n : Node). IsGivenOtherwise t c.args.table.now.entries nodes c.args.num n fact) node
          (given holds nodes fact empty ((c.pass-passed.ensures.answer grant fact is).1 follows));
    }
