use Rattle.std.proofs.Common.{List, Contains, sym, subst, ap, ◌∙◌}
use Rattle.std.specs.List.{filter_map}
use Rattle.std.proofs.lemmas.Result.{IfOk-weaker}
use Rattle.host_base.specs.declared.ids.GrantId.{GrantId}
use Rattle.share_graph.specs.declared.facts.Node.TheVariants as node
use Rattle.region_access.specs.declared.tie.Tie.TheVariants as tie
use Rattle.access_report.specs.declared.entry.Entry.{Entry}
use Rattle.access_report.specs.Entries.{HaveAccess}
use Rattle.access_report.specs.Found.{entry_of}
use Rattle.access_report.proofs.FoundNodes.{have_access, nothing_found}
use Rattle.access_report.proofs.listing.who.Goals as goal

pub add_grants-requires : goal.add_grants-requires
add_grants-requires c g listed =
    (c.requires.ties.exact (tie.Grain c.args.grain) g).0 (subst (λ (xs : List GrantId). Contains xs g) c.tied_by-grants.ensures listed)

pub returns : goal.returns
returns c =
    let t = c.args.tables.now in
    let n = c.args.grain in
    let found = c.in_ok-add_grants.ensures.found (c.in_ok-add_owner.ensures.found (nothing_found t n c.args.solved.now c.new-found.result.entries c.new-found.ensures.empty)) in
    let access = have_access t c.requires.coherent n c.args.solved.now c.requires.solution c.add_grants.new.found c.iter.ensures.ordered found
    (λ grain is. c.in_ok-add_grants.ensures.keeps (node.User n grain.owner) (c.in_ok-add_owner.ensures.there grain is))
    (λ g grant is of. c.in_ok-add_grants.ensures.there g grant (subst (λ (xs : List GrantId). Contains xs g) (sym c.tied_by-grants.ensures) ((c.requires.ties.exact (tie.Grain n) g).1 (grant, is, of))) is) in
    IfOk-weaker c.entries_of.result _ _ (λ entries same. subst (λ (xs : List Entry). HaveAccess t n xs) (sym (same ∙ ap (λ es. filter_map entry_of es) c.iter.ensures.rest)) access) c.entries_of.ensures
