use Rattle.std.proofs.Common.{◌≡◌, ◌∙◌, Some, sym, ap}
use Rattle.share_graph.specs.declared.facts.Node.{Node}
use Rattle.share_graph.specs.declared.grants.Grant.{Grant}
use Rattle.share_graph.specs.Nodes.{node_of}
use Rattle.region_access.proofs.seeds.node_there.Goals as goal

pub returns-in-Some : goal.returns-in-Some
returns-in-Some c at =
    let here : Grant = c.in-Some.row.now in (
      λ one. (let same : c.node_of.result ≡ at = cc one in (here, sym c.in-Some.ensures, sym same ∙ c.node_of.ensures)),
      λ (grant, there, same).
          let both : Some here ≡ Some grant = c.in-Some.ensures ∙ there in
          let row : here ≡ grant = cc both in
          ap (λ (n : Node). Some n) (c.node_of.ensures ∙ ap (λ (x : Grant). node_of c.args.num x) row ∙ sym same),
    )
