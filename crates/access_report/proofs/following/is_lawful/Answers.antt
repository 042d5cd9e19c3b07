use Rattle.std.proofs.Common.{sym, ◌∙◌, ap}
use Rattle.std.specs.Option.{option_copied}
use Rattle.access_report.specs.Steps.{Cites}
use Rattle.access_report.proofs.SoundSteps.{by_grant}
use Rattle.access_report.proofs.following.is_lawful.Goals as goal

pub returns-in-Some-find_grant : goal.returns-in-Some-find_grant
returns-in-Some-find_grant c =
    by_grant c.args.tables.now (Cites c.args.steps.now c.args.before c.args.step.now.from) c.args.step.now.grant c.in-Some.num c.in-Some-find_grant.grant.now
    c.args.step.now.node c.args.step.now.fact c.follows.result c.in-Some.is
    (sym c.grant.ensures ∙ ap (λ o. option_copied o) c.in-Some-find_grant.is) c.follows.ensures
