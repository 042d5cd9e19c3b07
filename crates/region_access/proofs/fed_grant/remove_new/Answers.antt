use Rattle.std.proofs.Common.{List, Option, Contains, sym, subst}
use Rattle.share_graph.specs.declared.facts.Node.{Node}
use Rattle.region_access.specs.declared.fed_grant.NewGrant.{NewGrant}
use Rattle.region_access.specs.declared.tie.Tie.{Tie}
use Rattle.region_access.specs.Adding.{MayAdd}
use Rattle.region_access.specs.Indexes.{entries_of, HaveNew}
use Rattle.region_access.specs.Ties.{tied_in}
use Rattle.region_work.specs.Fed.{fed_in}
use Rattle.region_access.proofs.fed_grant.remove_new.Goals as goal

pub returns-in-Some : goal.returns-in-Some
returns-in-Some c base has =
    let there = subst (λ (o : Option NewGrant). HaveNew o base (entries_of c.args.indexes.now)) c.in-Some.is has in
    record {
      edges = c.remove_edges.ensures (fed_in base.edges) there.feeding.0
          (subst (λ (xs : List Node). MayAdd (Contains xs) c.in-Some.grant.num (fed_in base.edges) (fed_in c.args.indexes.now.edges.entries)) (sym c.as_slice.ensures.value) there.feeding.1.may);
      arrivals = c.remove_edges-in-Some.ensures (fed_in base.arrivals) there.arrival.0 there.arrival.1.may;
      ties = c.remove_edges-in-Some-2.ensures (tied_in base.ties) there.ties.0
          (subst (λ (xs : List Tie). MayAdd (Contains xs) c.in-Some.grant.num (tied_in base.ties) (tied_in c.args.indexes.now.ties.entries)) (sym c.as_slice-in-Some.ensures.value) there.ties.1.may);
    }
