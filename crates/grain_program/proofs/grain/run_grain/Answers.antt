use Rattle.std.proofs.Common.{Err, ap}
use Rattle.grain_program.proofs.Taken.{takes_at}
use Rattle.grain_program.proofs.grain.run_grain.Goals as goal

pub returns-in-Err-take_one-clause-takes : goal.returns-in-Err-take_one-clause-takes
returns-in-Err-take_one-clause-takes g c =
    let came = c.in-Err-take_one.ensures in
    takes_at c.args.count c.connections._taken (g.E.Entrance.doorway c.args.door.now) (g.E.Entrance.doorway c.connections.door) (g.E.Entrance.doorway c.take_one.new.door) c.in-Err-take_one.end
    c.connections-test.true c.connections.invariant.taken (λ is. came.memory (ap Err is)) (λ is. came.ended (ap Err is)) (λ is. came.ended_same (ap Err is)) (λ is. came.failed_same (ap Err is))
