use Rattle.std.proofs.Common.{◌≡◌, List, Some, Option, subst}
use Rattle.std.proofs.lemmas.Result.{on_ok_weaker}
use Rattle.share_graph.specs.declared.facts.Node.{Node}
use Rattle.share_graph.specs.declared.grants.Need.{Need}
use Rattle.share_graph.specs.Nodes.{source_of}
use Rattle.share_graph.specs.Region.{Feeds}
use Rattle.region_access.specs.Adding.{Adds, IsNamed}
use Rattle.region_work.specs.Fed.{fed_in}
use Rattle.region_access.proofs.Added.{adds_both, feeds_either}
use Rattle.region_access.proofs.indexing.add_grant.Goals as goal

pub returns : goal.returns
returns c =
    let old = fed_in c.args.edges.now.entries in
    let mid = fed_in c.add_from.new.edges.entries in
    let new = fed_in c.add_needs.new.edges.entries in
    let first = subst (λ (from : Option Node). Adds (λ (at : Node). from ≡ Some at) c.args.num old mid) c.source_of.ensures c.in_ok-add_from.ensures in
    on_ok_weaker c.add_needs.result
    (λ second.
    adds_both (λ (at : Node). source_of c.args.grant.now ≡ Some at) (IsNamed c.args.grant.now.needs) (λ (at : Node). Feeds at c.args.grant.now) c.args.num old mid new
    (feeds_either c.args.grant.now) first (subst (λ (needs : List Need). Adds (IsNamed needs) c.args.num mid new) c.as_slice.ensures second))
    c.add_needs.ensures
