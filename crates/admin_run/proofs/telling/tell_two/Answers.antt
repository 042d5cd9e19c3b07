use Rattle.admin_run.proofs.Told.{tells_more, tells_part}
use Rattle.admin_run.proofs.telling.tell_two.Goals as goal

pub returns-then-tell-ne0-clause-tells : goal.returns-then-tell-ne0-clause-tells
returns-then-tell-ne0-clause-tells g c =
    tells_part (g.O.Sink.outlet c.args.out.now) (g.O.Sink.outlet c.tell.new.out) c.args.first.now c.args.second.now c.args.done c.tell.result c.if-tell-ne0.true c.tell.ensures.tells

pub returns-clause-tells : goal.returns-clause-tells
returns-clause-tells g c =
    tells_more (g.O.Sink.outlet c.args.out.now) (g.O.Sink.outlet c.tell.new.out) (g.O.Sink.outlet c.tell-2.new.out) c.args.first.now c.args.second.now c.tell.result c.args.done c.tell-2.result
    c.if-tell-ne0.false c.tell.ensures.tells c.tell.ensures.counts c.tell-2.ensures.counts c.tell-2.ensures.tells
