use Rattle.std.proofs.Common.{arith}
use Rattle.std.proofs.lemmas.Result.{on_ok_weaker}
use Rattle.row_tables.specs.Sections.{AreBytes}
use Rattle.row_tables.proofs.tables.read_all.Goals as goal

pub returns-clause-bytes : goal.returns-clause-bytes
returns-clause-bytes c =
    let none : AreBytes c.args.rows.now 0 = λ k lt. absurd (omega arith) in
    let seen : AreBytes c.args.rows.now c.in_ok-saved.at = c.in_ok-saved.ensures.bytes (c.in_ok-grants.ensures.bytes (c.in_ok-grains.ensures.bytes (c.in_ok-apps.ensures.bytes (c.in_ok-accounts.ensures.bytes none)))) in
    on_ok_weaker c.ended.result (λ le. λ k lt. seen k (omega (arith, le))) c.ended.ensures.all
