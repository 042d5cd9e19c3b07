use Rattle.std.proofs.Common.{sym, ap, ◌∙◌}
use Rattle.std.specs.Option.{option_copied}
use Rattle.table_check.proofs.Fits.{for_parent}
use Rattle.table_check.proofs.parents.is_child.Goals as goal

pub returns-in-Some : goal.returns-in-Some
returns-in-Some c =
    for_parent c.args.tables.now c.args.num c.args.grant.now c.in-Some.parent.now c.passes_on.result (sym c.grant.ensures ∙ ap (λ o. option_copied o) c.in-Some.is) c.passes_on.ensures
