use Rattle.std.proofs.Common.{List, refl, sym, subst}
use Rattle.access_report.specs.declared.step.Step.{Step}
use Rattle.access_report.specs.Telling.{IsSaid, OwnsMore}
use Rattle.access_report.proofs.Told.{owns_one, said_last}
use Rattle.access_report.proofs.telling.tell_own.Goals as goal

pub returns-clause-adds : goal.returns-clause-adds
returns-clause-adds c =
    subst (λ (steps : List Step). OwnsMore c.args.node c.args.held.now c.args.trace.now steps) (sym c.in_ok-add.ensures)
    (owns_one c.args.node c.args.held.now c.args.fact c.args.trace.now _ refl refl refl (c.is_in.ensures.0 c.if-not-is_in.false))

pub returns-clause-told : goal.returns-clause-told
returns-clause-told c is =
    subst (λ (steps : List Step). IsSaid steps c.args.node c.args.fact) (sym c.in_ok-add.ensures) (said_last c.args.trace.now _)
