use Rattle.std.proofs.Common.{◌≡◌, refl, sym, ◌∙◌, ap, subst, IsSome}
use Rattle.std.specs.Option.{option_copied}
use Rattle.share_graph.specs.declared.facts.Node.TheVariants as node
use Rattle.share_graph.specs.declared.rows.Grain.{Grain}
use Rattle.share_graph.specs.Rows.{IsGrain}
use Rattle.least_access.specs.Solved.{held_at}
use Rattle.access_report.proofs.FoundNodes.{found_more}
use Rattle.access_report.proofs.finding.add_owner.Goals as goal

pub returns-clause-found : goal.returns-clause-found
returns-clause-found c =
    found_more c.args.tables.now c.args.num c.args.solved.now c.args.found.now.entries c.add_node.new.found.entries (node.User c.args.num c.in-Some.grain.now.owner) c.in_ok-add_node.ensures refl

pub returns-clause-there : goal.returns-clause-there
returns-clause-there c grain is =
    let there : IsGrain c.args.tables.now c.args.num c.in-Some.grain.now = sym c.grain.ensures ∙ ap (λ o. option_copied o) c.in-Some.is in
    let same : c.in-Some.grain.now ≡ grain = cc in
    subst (λ (g : Grain). IsSome (held_at c.add_node.new.found.entries (node.User c.args.num g.owner))) same c.in_ok-add_node.ensures.there
