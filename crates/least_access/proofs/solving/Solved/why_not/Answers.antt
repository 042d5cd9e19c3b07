use Rattle.std.proofs.Common.{Some, sym, ◌∙◌, ap, subst}
use Rattle.std.specs.Option.{option_copied}
use Rattle.share_graph.specs.declared.facts.Fact.TheVariants.{Open}
use Rattle.share_graph.specs.declared.facts.Node.{Node}
use Rattle.share_graph.specs.Missing.{IsMissing}
use Rattle.share_graph.proofs.MissingOne.{missing_one}
use Rattle.least_access.proofs.Lacking.{entered, some_found}
use Rattle.least_access.proofs.solving.Solved.why_not.Goals as goal

pub returns-then-is_some-clause-missing : goal.returns-then-is_some-clause-missing
returns-then-is_some-clause-missing c =
    let (set, held) = some_found c.access.result _ _ c.access.ensures (sym c.is_some.ensures ∙ c.if-is_some.true) in
    entered c.args.tables.now c.args.node c.requires.there ((c.requires.solution c.args.node Open).0 held.0)

pub returns-then-is_some-clause-one : goal.returns-then-is_some-clause-one
returns-then-is_some-clause-one c = missing_one c.args.tables.now c.args.node

pub returns-in-Some-clause-missing : goal.returns-in-Some-clause-missing
returns-in-Some-clause-missing c =
    subst (λ (at : Node). IsMissing c.args.tables.now at (Some c.grant_lacks.result)) (sym c.in-Grant.is)
    (c.in-Some.grant.now, sym c.grant.ensures ∙ ap (λ o. option_copied o) c.in-Some.is, c.grant_lacks.ensures)

pub returns-in-Some-clause-one : goal.returns-in-Some-clause-one
returns-in-Some-clause-one c = missing_one c.args.tables.now c.args.node
