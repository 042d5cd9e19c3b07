use Rattle.std.proofs.Common.{Option, subst}
use Rattle.region_access.specs.declared.fed_grant.NewGrant.{NewGrant}
use Rattle.region_access.specs.Indexes.{entries_of}
use Rattle.region_access.specs.NewEdges.{HasNoRow}
use Rattle.region_access.proofs.After.{none_feeds, none_arrives, none_hangs}
use Rattle.region_access.proofs.fed_grant.add_new.Goals as goal

pub add_grant_edges-requires-clause-new : goal.add_grant_edges-requires-clause-new
add_grant_edges-requires-clause-new c =
    let (t, are, fresh) = c.requires in
    none_feeds t (entries_of c.args.indexes.now) c.in-Some.grant are (subst (λ (o : Option NewGrant). HasNoRow t o) c.in-Some.is fresh)

pub add_grant_edges-requires-clause-new_into : goal.add_grant_edges-requires-clause-new_into
add_grant_edges-requires-clause-new_into c =
    let (t, are, fresh) = c.requires in
    none_arrives t (entries_of c.args.indexes.now) c.in-Some.grant are (subst (λ (o : Option NewGrant). HasNoRow t o) c.in-Some.is fresh)

pub add_grant_edges-requires-clause-new_ties : goal.add_grant_edges-requires-clause-new_ties
add_grant_edges-requires-clause-new_ties c =
    let (t, are, fresh) = c.requires in
    none_hangs t (entries_of c.args.indexes.now) c.in-Some.grant are (subst (λ (o : Option NewGrant). HasNoRow t o) c.in-Some.is fresh)
