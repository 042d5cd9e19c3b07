use Rattle.std.proofs.Common.{◌≡◌, ◌∙◌, List, MatchOption, length, subst}
use Rattle.access_report.specs.declared.step.Step.{Step}
use Rattle.access_report.specs.Placing.{place_in}
use Rattle.access_report.specs.Steps.{SaysBefore}
use Rattle.access_report.specs.Telling.{IsSaid}
use Rattle.access_report.proofs.Traced.{placed_match}
use Rattle.access_report.proofs.trace.Trace.place_of.Goals as goal

pub returns : goal.returns
returns c =
    let found : c.copied.result ≡ place_in c.self.inside.places.entries c.args.node c.args.fact = c.copied.ensures ∙ rw c.position.ensures at c.get.ensures.value in
    subst (λ (steps : List Step). MatchOption c.copied.result (IsSaid steps c.args.node c.args.fact → ⊥) (λ place. SaysBefore steps (length steps) place c.args.node c.args.fact)) c.self.view_is
    (placed_match c.self.inside.steps.items c.self.inside.places.entries c.args.node c.args.fact c.self.invariant c.copied.result found)
