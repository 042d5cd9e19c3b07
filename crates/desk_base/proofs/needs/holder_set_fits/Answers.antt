use Rattle.std.proofs.Common.{sym, ap, ◌∙◌}
use Rattle.std.specs.Option.{option_copied}
use Rattle.desk_base.specs.Terms.{SetFits}
use Rattle.desk_base.proofs.Words.{for_grant}
use Rattle.desk_base.proofs.needs.holder_set_fits.Goals as goal

pub returns-in-Some : goal.returns-in-Some
returns-in-Some c =
    rw c.in-Grant.is (for_grant c.args.tables.now c.in-Grant.num (λ row. SetFits c.args.tables.now row.grain c.args.set.now) c.in-Some.grant.now c.set_fits-in-Some.result
    (sym c.grant.ensures ∙ ap (λ o. option_copied o) c.in-Some.is) c.set_fits-in-Some.ensures)
