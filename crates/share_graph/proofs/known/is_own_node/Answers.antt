use Rattle.std.proofs.Common.{sym, ap, ◌∙◌}
use Rattle.std.specs.Option.{option_copied}
use Rattle.share_graph.proofs.KnownRows.{own_node}
use Rattle.share_graph.proofs.known.is_own_node.Goals as goal

pub returns-in-Some : goal.returns-in-Some
returns-in-Some c = own_node c.args.tables.now c.args.num c.in-Some.row.now c.is_no_user.result (sym c.grant.ensures ∙ ap (λ o. option_copied o) c.in-Some.is) c.is_no_user.ensures
