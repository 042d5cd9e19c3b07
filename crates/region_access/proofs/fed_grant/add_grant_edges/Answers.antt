use Rattle.std.proofs.Common.{List, Contains, sym, ◌∙◌, subst}
use Rattle.share_graph.specs.declared.facts.Node.{Node}
use Rattle.region_access.specs.Adding.{MayAdd, AddsEdges}
use Rattle.region_work.specs.Fed.{fed_in}
use Rattle.region_access.proofs.fed_grant.add_grant_edges.Goals as goal

pub returns-in-Ok-clause-feeding : goal.returns-in-Ok-clause-feeding
returns-in-Ok-clause-feeding c = (
  c.requires.new,
  subst (λ (xs : List Node). AddsEdges (Contains xs) c.args.grant.now.num (fed_in c.args.edges.now.entries) (fed_in c.add_to_all.new.edges.entries)) c.as_slice.ensures.value c.in_ok-add_to_all.ensures.ok,
)

pub returns-in-Err-clause-err : goal.returns-in-Err-clause-err
returns-in-Err-clause-err c =
    let base = fed_in c.args.edges.now.entries in
    let again = c.as_slice.ensures.value ∙ sym c.as_slice-in-Err.ensures.value in
    c.remove_edges.ensures base c.requires.new
    (subst (λ (xs : List Node). MayAdd (Contains xs) c.args.grant.now.num base (fed_in c.add_to_all.new.edges.entries)) again c.in_ok-add_to_all.ensures.ok.may)
