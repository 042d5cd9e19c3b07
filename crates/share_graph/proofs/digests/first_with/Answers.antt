use Rattle.std.proofs.Common.{◌≡◌, Some, MatchOption, subst}
use Rattle.share_graph.specs.Keys.{IsFirstOf, IsNoneOf}
use Rattle.share_graph.proofs.Narrowing.{take_all}
use Rattle.share_graph.proofs.digests.first_with.Goals as goal

pub returns : goal.returns
returns g c =
    subst (λ rows. MatchOption c.first_before.result (IsNoneOf rows (λ row. g.R.Digested.digest_of row ≡ Some c.args.digest.now)) (λ row. IsFirstOf rows (λ y. g.R.Digested.digest_of y ≡ Some c.args.digest.now) row.now))
    (take_all c.as_slice.result.now c.args.rows.now c.as_slice.ensures) c.first_before.ensures
