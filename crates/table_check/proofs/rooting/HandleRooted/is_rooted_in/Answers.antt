use Rattle.std.proofs.Common.{sym, ap, ◌∙◌}
use Rattle.std.specs.Option.{option_copied}
use Rattle.table_check.proofs.Fits.{for_handle}
use Rattle.table_check.proofs.rooting.HandleRooted.is_rooted_in.Goals as goal

pub returns-in-Some : goal.returns-in-Some
returns-in-Some c =
    for_handle c.args.state.now c.args.self.now c.in-Some.row.now c.has_claimed.result
    (sym c.grant.ensures ∙ ap (λ o. option_copied o) c.in-Some.is) (rw c.as_slice.ensures at c.has_claimed.ensures)
