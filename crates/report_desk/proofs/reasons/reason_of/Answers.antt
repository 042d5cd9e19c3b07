use Rattle.std.proofs.Common.{List, Contains, subst}
use Rattle.access_report.specs.declared.step.Step.{Step}
use Rattle.share_graph.specs.declared.facts.Node.TheVariants as node
use Rattle.report_desk.proofs.Holding.{showable}
use Rattle.report_desk.proofs.reasons.reason_of.Goals as goal

pub steps_of-requires-clause-showable : goal.steps_of-requires-clause-showable
steps_of-requires-clause-showable c step listed =
    showable c.args.tables.now c.requires.coherent c.in-Some.steps.items (node.User c.args.grain c.args.account) c.args.fact (rw c.in-Some.is at c.in_ok-steps.ensures) step
    (subst (λ (xs : List Step). Contains xs step) c.as_slice.ensures.value listed)
