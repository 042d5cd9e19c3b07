use Rattle.std.proofs.Common.{MatchOption, subst}
use Rattle.share_graph.specs.Keys.{IsFirstOf, IsNoneOf, HasHandle}
use Rattle.share_graph.proofs.FirstOf.{found_one}
use Rattle.share_graph.proofs.Narrowing.{take_all}
use Rattle.share_graph.proofs.keys.by_handle.Goals as goal

pub returns : goal.returns
returns c = found_one (HasHandle c.args.handle.now) (λ row. row.now) c.args.tables.now.accounts _
    (subst (λ rows. MatchOption c.handle_before.result (IsNoneOf rows (HasHandle c.args.handle.now)) (λ row. IsFirstOf rows (HasHandle c.args.handle.now) row.now))
    (take_all c.as_slice.result.now c.args.tables.now.accounts c.as_slice.ensures) c.handle_before.ensures)
