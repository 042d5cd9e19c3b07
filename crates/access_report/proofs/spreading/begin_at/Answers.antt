use Rattle.std.proofs.Common.{inr}
use Rattle.access_report.proofs.Begun.{begun_one, told_joined}
use Rattle.access_report.proofs.spreading.begin_at.Goals as goal

pub returns-clause-told : goal.returns-clause-told
returns-clause-told c =
    told_joined c.args.tables.now c.args.work.now.trace c.tell_owned.new.trace c.args.work.now.table.entries c.join-gained.new.table.entries c.args.node c.own_of-own.result c.join-gained.result
    c.join-gained.ensures c.in_ok-tell_owned.ensures.adds.more (c.in_ok-tell_owned.ensures.adds.sound c.args.tables.now c.requires.told.sound (λ fact is. (c.own_of-own.ensures fact).0 is))
    (λ fact is. inr (c.in_ok-tell_owned.ensures.told fact is)) c.requires.told

pub returns-clause-begun : goal.returns-clause-begun
returns-clause-begun c =
    begun_one c.args.tables.now c.args.fed.now.entries c.args.node c.own_of-own.result c.args.work.now.table.entries c.join-gained.new.table.entries c.join-gained.result c.args.work.now.queue
    c.wake.new.queue c.join-gained.ensures c.own_of-own.ensures c.in_ok-wake.ensures
