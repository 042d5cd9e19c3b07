use Rattle.std.proofs.Common.{sym, ap, ◌∙◌}
use Rattle.std.specs.Option.{option_copied}
use Rattle.table_check.proofs.Fits.{for_root}
use Rattle.table_check.proofs.rooting.may_root.Goals as goal

pub returns-in-Some : goal.returns-in-Some
returns-in-Some c =
    rw c.in-Grant.is (for_root c.args.tables.now c.args.num c.in-Grant.id c.in-Some.row.now c.is_borne_on.result
    (sym c.grant.ensures ∙ ap (λ o. option_copied o) c.in-Some.is) c.is_borne_on.ensures)
