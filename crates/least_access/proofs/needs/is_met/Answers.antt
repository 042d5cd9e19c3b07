use Rattle.least_access.specs.Solved.{HeldAt}
use Rattle.least_access.proofs.NeedTests.{token_met, set_met, set_unmet}
use Rattle.least_access.proofs.needs.is_met.Goals as goal

pub returns-in-TokenValid : goal.returns-in-TokenValid
returns-in-TokenValid c =
    rw c.in-TokenValid.is (token_met c.args.tables.now (HeldAt c.args.table.now.entries) c.in-TokenValid.num c.holding.result c.holding.ensures.facts)

pub returns-then-held : goal.returns-then-held
returns-then-held c =
    rw c.in-PermissionsHeld.is
    (set_met c.args.tables.now (HeldAt c.args.table.now.entries) c.in-PermissionsHeld.holder c.in-PermissionsHeld.set c.holding-held.result
    c.holding-held.ensures.facts c.if-held.true c.contains.result c.contains.ensures.answer)

pub returns-else-held : goal.returns-else-held
returns-else-held c =
    rw c.in-PermissionsHeld.is
    (set_unmet c.args.tables.now (HeldAt c.args.table.now.entries) c.in-PermissionsHeld.holder c.in-PermissionsHeld.set c.holding-held.result
    c.holding-held.ensures.facts c.if-held.false)
