use Rattle.std.proofs.Common.{◌≡◌, Some, Option, sym, subst}
use Rattle.std.proofs.lemmas.Result.{on_ok_weaker}
use Rattle.share_graph.specs.declared.facts.Node.{Node}
use Rattle.region_access.specs.Adding.{Adds}
use Rattle.region_work.specs.Fed.{fed_in}
use Rattle.region_access.proofs.Added.{adds_edge}
use Rattle.region_access.proofs.indexing.add_from.Goals as goal

pub returns-in-Some : goal.returns-in-Some
returns-in-Some c =
    let old = fed_in c.args.edges.now.entries in
    let new = fed_in c.add_edge.new.edges.entries in
    on_ok_weaker c.add_edge.result
    (λ edge. subst (λ (from : Option Node). Adds (λ (at : Node). from ≡ Some at) c.args.num old new) (sym c.in-Some.is) (adds_edge c.in-Some.node c.args.num old new edge))
    c.add_edge.ensures.ok
