use Rattle.std.proofs.Common.{◌≡◌, sym, ap, ◌∙◌}
use Rattle.std.specs.Option.{option_copied}
use Rattle.share_graph.specs.declared.grants.Target.TheVariants as target
use Rattle.table_check.proofs.Fits.{for_grant}
use Rattle.table_check.proofs.fitting.is_reference.Goals as goal

pub returns-in-Some : goal.returns-in-Some
returns-in-Some c =
    for_grant c.args.tables.now c.args.saved.now.grant (λ row. row.target ≡ target.Grain c.args.saved.now.holder) c.in-Some.row.now c.is_claimed_by.result
    (sym c.grant.ensures ∙ ap (λ o. option_copied o) c.in-Some.is) c.is_claimed_by.ensures
