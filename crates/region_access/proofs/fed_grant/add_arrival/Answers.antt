use Rattle.std.proofs.Common.{List, Contains, subst}
use Rattle.region_access.specs.declared.tie.Tie.{Tie}
use Rattle.region_access.specs.Adding.{AddsEdges}
use Rattle.region_access.specs.Ties.{tied_in}
use Rattle.region_work.specs.Fed.{fed_in}
use Rattle.region_access.proofs.fed_grant.add_arrival.Goals as goal

pub returns-in-Ok-clause-ties : goal.returns-in-Ok-clause-ties
returns-in-Ok-clause-ties c = (
  c.requires.new_there,
  subst (λ (xs : List Tie). AddsEdges (Contains xs) c.args.grant.now.num (tied_in c.args.ties.now.entries) (tied_in c.add_to_all-2.new.edges.entries)) c.as_slice.ensures.value c.in-Ok.ensures.ok,
)

pub returns-in-Err-clause-err : goal.returns-in-Err-clause-err
returns-in-Err-clause-err c = c.remove_edges.ensures (fed_in c.args.into.now.entries) c.requires.new c.in_ok-add_to_all.ensures.ok.may
